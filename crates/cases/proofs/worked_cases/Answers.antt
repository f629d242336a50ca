use Rattle.std.proofs.Common.{◌≡◌, ℕ, ◌-◌, Bool, true, false, not, eqb, ltb, List, length, ℤ, sum_by, refl, ap}
use Rattle.std.specs.Prelude.{zip}
use Rattle.std.specs.Int.{int_wrap}
use Rattle.columnar.specs.Cells.{Cell, Ticks}
use Rattle.buffers.specs.Memory.{Room, values_layout, short}
use Rattle.groups.specs.Lists.{all_below, names_from}
use Rattle.groups.specs.Tally.{Means, Conditions, none_hold, refusal, convert_conditions, differs, merge_refusal, with_states, converted, convert_refusal}
use Rattle.cases.specs.Words.{sums, is_number}
use Rattle.cases.specs.Views.{ViewCases, BufferCases}
use Rattle.cases.specs.Table.{ColumnCases, SumCases, RefusalCases, PeekCases, MergeCases, ConvertCases, DivisionCases, BooleanCases, ReadingCases}
use Rattle.cases.proofs.worked_cases.Goals as goal

-- the conditions of a merge
abbrev of_merge : Bool → Bool → Bool → Bool → Bool → Bool → Bool → Conditions
of_merge rows indices below above index named pairs =
    record none_hold {
      too_many_rows = rows;
      indices_differ = indices;
      total_below = below;
      total_above = above;
      index_above = index;
      not_named = named;
      too_many_pairs = pairs;
    }

without_filter : (rows indices below above index named pairs : Bool) → is_number 7 (refusal (of_merge rows indices below above index named pairs)) ≡ false
without_filter true indices below above index named pairs = refl
without_filter false true below above index named pairs = refl
without_filter false false true above index named pairs = refl
without_filter false false false true index named pairs = refl
without_filter false false false false true named pairs = refl
without_filter false false false false false true pairs = refl
without_filter false false false false false false true = refl
without_filter false false false false false false false = refl

merge_never_7_holds : (m : Means sums) (rows : List (Cell ℤ)) (groups : List ℕ) (total : ℕ) → is_number 7 (merge_refusal sums m rows groups total) ≡ false
merge_never_7_holds m rows groups total =
    without_filter
    (ltb m.most_rows (length rows))
    (not (eqb (length rows) (length groups)))
    (ltb total (length m.credits))
    (ltb m.most_groups total)
    (not (all_below total groups))
    (not (names_from (length m.credits) (total - length m.credits) groups))
    (ltb m.most_pairs (sum_by sums.pairs (with_states sums m (zip groups rows) total)))

by_rows_and_limit_holds : (m k : Means sums) (rows : List (Cell ℤ)) (ticks : Ticks) (out : Room) → m.most_rows ≡ k.most_rows → convert_refusal sums values_layout m rows ticks out ≡ convert_refusal sums values_layout k rows ticks out
by_rows_and_limit_holds m k rows ticks out same =
    ap (λ most. refusal (convert_conditions (ltb most (length rows)) (differs ticks (length rows)) (short values_layout out (converted sums rows ticks)))) same

views_hold : ViewCases
views_hold =
    record {
      mask_from_bit_two = refl;
      mask_over_two_bytes = refl;
      no_mask = refl;
      booleans_by_two_starts = refl;
      filter_rows = refl;
      filter_lets_through = refl;
      filter_without_mask = refl;
      filter_not_given = refl;
      filter_as_mask = refl;
      last_bit = refl;
      bit_past_the_end = refl;
      last_list = refl;
      list_past_the_end = refl;
      lists_from_offset_two = refl;
      offsets_from_two = refl;
      no_offset = refl;
      one_offset = refl;
      negative_offset = refl;
      last_at_the_end = refl;
      last_past_the_end = refl;
      equal_lengths = refl;
      shorter_mask = refl;
      longer_mask = refl;
      lengths_number = refl;
      end_past_the_word = refl;
    }

buffers_hold : BufferCases
buffers_hold =
    record {
      laid_with_a_mask = refl;
      laid_without_a_mask = refl;
      held_again = refl;
      nine_bits = refl;
      packed_values = refl;
      packed_held_again = refl;
    }

columns_hold : ColumnCases
columns_hold =
    record {
      byte_five_unpacks = refl;
      bits_to_the_end = refl;
      bits_past_the_end = refl;
      bits_number = refl;
      rows_by_offsets = refl;
      offsets_in_order = refl;
      offsets_falling = refl;
      offsets_number = refl;
    }

of_sums_hold : SumCases
unfolding int_wrap
of_sums_hold =
    record {
      plain_sums = refl;
      null_sums = refl;
      sum_wraps = refl;
      first_then_more = refl;
      group_not_named = refl;
      index_above_total = refl;
      filtered = refl;
      no_mask_after_all = refl;
      mask_by_empty_filter = refl;
      no_mask_by_empty_batch = refl;
      null_remainder = refl;
    }

refusals_hold : RefusalCases
unfolding int_wrap
refusals_hold =
    record {
      rows_5 = refl;
      indices_6 = refl;
      filter_7 = refl;
      kept_8 = refl;
      limit_9 = refl;
      index_10 = refl;
      named_11 = refl;
      groups_13 = refl;
      values_14 = refl;
      mask_14 = refl;
      rows_before_indices = refl;
      indices_before_filter = refl;
      filter_before_total = refl;
      limit_before_index = refl;
      index_before_named = refl;
      groups_before_buffer = refl;
      in_line = refl;
    }

peeks_hold : PeekCases
unfolding int_wrap
peeks_hold =
    record {
      peeked_all = refl;
      peeked_then_evaluated = refl;
      evaluated_without_peek = refl;
      peeked_first = refl;
      peeked_fresh = refl;
      peek_leaves_marked = refl;
      peek_leaves_plain = refl;
      forgot_first = refl;
      forgot_none = refl;
      forgot_all = refl;
      forgot_fresh = refl;
      moved_down = refl;
      peek_and_forget = refl;
      all_resets = refl;
      first_leaves_marked = refl;
      every_first_leaves_marked = refl;
      peek_13 = refl;
      peek_values_14 = refl;
      peek_mask_14 = refl;
      peek_13_before_14 = refl;
      forget_13 = refl;
      refused_forgets_nothing = refl;
    }

merges_hold : MergeCases
unfolding int_wrap
merges_hold =
    record {
      merged_crossed = refl;
      merged_into_one = refl;
      merge_opens = refl;
      merge_wraps = refl;
      null_state_adds_nothing = refl;
      null_state_alone = refl;
      plain_stays_plain = refl;
      null_marks = refl;
      marked_stays_marked = refl;
      mask_without_null = refl;
      empty_merge_stays_plain = refl;
      merge_5 = refl;
      merge_6 = refl;
      merge_8 = refl;
      merge_9 = refl;
      merge_10 = refl;
      merge_11 = refl;
      null_state_names_its_group = refl;
      refused_merges_nothing = refl;
      merge_5_before_6 = refl;
      merge_6_before_8 = refl;
      merge_8_before_10 = refl;
      merge_9_before_10 = refl;
      merge_10_before_11 = refl;
      merge_never_7 = merge_never_7_holds;
    }

conversions_hold : ConvertCases
unfolding int_wrap
conversions_hold =
    record {
      converted_mixed = refl;
      converted_unfiltered = refl;
      converted_plain = refl;
      converted_nothing = refl;
      ninth_row = refl;
      converted_then_merged = refl;
      updated_at_once = refl;
      converts_aside = refl;
      converts_beside_nulls = refl;
      by_rows_and_limit = by_rows_and_limit_holds;
      convert_5 = refl;
      convert_7 = refl;
      convert_14 = refl;
      convert_5_before_7 = refl;
      convert_7_before_14 = refl;
      convert_5_before_14 = refl;
    }

divisions_hold : DivisionCases
unfolding int_wrap
divisions_hold =
    record {
      undivided = refl;
      in_two_updates = refl;
      front_into_back = refl;
      back_into_front = refl;
      both_into_fresh = refl;
      renumbered_into_front = refl;
      in_two_pieces = refl;
      one_group_apart = refl;
    }

booleans_hold : BooleanCases
booleans_hold =
    record {
      and_passes_over_null = refl;
      and_with_false = refl;
      or_passes_over_null = refl;
      or_with_true = refl;
      xor_of_two = refl;
      xor_of_three = refl;
      xor_passes_over_null = refl;
      and_of_nothing = refl;
      or_of_nothing = refl;
      xor_of_nothing = refl;
      eight_groups = refl;
      nine_groups = refl;
      nine_with_null = refl;
      bits_move_down = refl;
      eight_in_one_byte = refl;
      nine_in_two_bytes = refl;
      nine_and_mask = refl;
      bits_peeked = refl;
      bits_merged = refl;
      bits_converted_by_and = refl;
      bits_converted_by_or = refl;
    }

readings_hold : ReadingCases
unfolding int_wrap
readings_hold =
    record {
      null_tick_is_no = refl;
      if_by_bit = refl;
      mark_of_its_own = refl;
      if_marks_in_place = refl;
      all_makes_plain = refl;
      if_switch_kept = refl;
      null_state_is_empty = refl;
      if_by_figure = refl;
    }

pub returns : goal.returns
returns c =
    record {
      columns = columns_hold;
      views = views_hold;
      of_buffers = buffers_hold;
      of_sums = of_sums_hold;
      refusals = refusals_hold;
      peeks = peeks_hold;
      merges = merges_hold;
      conversions = conversions_hold;
      divisions = divisions_hold;
      booleans = booleans_hold;
      readings = readings_hold;
    }
