-- Worked cases of the definitions, as one table: a record for each subject.
use Rattle.std.specs.Prelude.{◌≡◌, ℕ, ◌+◌, ◌-◌, ◌^◌, Bool, true, false, List, [], ◌∷◌, map, length, take, drop, ℤ, pos, negsuc, Some, None}
use Rattle.std.specs.Option.{option_map}
use Rattle.columnar.specs.declared.refusal.Refusal.TheVariants.{BitsOutOfBytes, Offsets}
use Rattle.columnar.specs.Packed.{unpacked}
use Rattle.columnar.specs.Cells.{Cell, Column, Ticks, cell, cells}
use Rattle.columnar.specs.Lists.{list_cells}
use Rattle.columnar.specs.Refusals.{number_of, bits_refusal, offsets_refusal}
use Rattle.buffers.specs.Memory.{Room, values_layout}
use Rattle.groups.specs.declared.emit.EmitTo.TheVariants.{All, First}
use Rattle.groups.specs.Tally.{Means, refusal, with_credits, updated, merge_refusal, converted, convert_refusal, answer}
use Rattle.cases.specs.Views.{ViewCases, BufferCases}
use Rattle.cases.specs.Calls.{Call, Reply, update, merge, convert, evaluate, peek, forget, accepted, answered, refused, handed_out}
use Rattle.cases.specs.Words.{sums, ands, ors, xors, run, narrow, decide, meant, states, ending, plain, null, shown, bits, null_bit, room, ample, yes, no, null_tick, all, first, look, half_null, two, holding, numbered, is_number}

-- ── columns ──────────────────────────────────────────────────────────────
pub record ColumnCases : Type 0 where
  -- packed bits: byte 5, and three bits from bit 5 or 6 of one byte
  pub byte_five_unpacks : unpacked (5 ∷ []) 0 3 ≡ true ∷ false ∷ true ∷ []
  pub bits_to_the_end : bits_refusal 1 5 3 ≡ None
  pub bits_past_the_end : bits_refusal 1 6 3 ≡ Some BitsOutOfBytes
  pub bits_number : number_of BitsOutOfBytes ≡ 1
  -- list rows of two, none and one item; a falling offset
  pub rows_by_offsets : list_cells {V = ℕ} (pos 0 ∷ pos 2 ∷ pos 2 ∷ pos 3 ∷ []) (7 ∷ 8 ∷ 9 ∷ []) ≡ cell true (7 ∷ 8 ∷ []) ∷ cell true [] ∷ cell true (9 ∷ []) ∷ []
  pub offsets_in_order : offsets_refusal (pos 0 ∷ pos 2 ∷ pos 2 ∷ pos 3 ∷ []) 3 ≡ None
  pub offsets_falling : offsets_refusal (pos 0 ∷ pos 2 ∷ pos 1 ∷ []) 3 ≡ Some Offsets
  pub offsets_number : number_of Offsets ≡ 3

-- ── sums ─────────────────────────────────────────────────────────────────
pub record SumCases : Type 0 where
  -- sums of two groups, with and without a null
  pub plain_sums : run (update (plain (5 ∷ 7 ∷ 9 ∷ [])) None (0 ∷ 1 ∷ 0 ∷ []) 2 ∷ all ∷ []) ≡ accepted ∷ shown (14 ∷ 7 ∷ []) None ∷ []
  pub null_sums : run (half_null ∷ all ∷ []) ≡ accepted ∷ shown (14 ∷ 0 ∷ []) (Some (1 ∷ [])) ∷ []
  pub sum_wraps : run (update (plain ((2 ^ 63 - 1) ∷ 1 ∷ [])) None (0 ∷ 0 ∷ []) 1 ∷ all ∷ []) ≡ accepted ∷ answered (negsuc (2 ^ 63 - 1) ∷ []) None ∷ []
  -- the groups that are left move down, and the mask stays
  pub first_then_more : run (half_null ∷ first 1 ∷ update (plain (4 ∷ [])) None (0 ∷ []) 1 ∷ all ∷ []) ≡ accepted ∷ shown (14 ∷ []) (Some (1 ∷ [])) ∷ accepted ∷ shown (4 ∷ []) (Some (1 ∷ [])) ∷ []
  -- a group that no row names, and one above the total
  pub group_not_named : run (update (plain (5 ∷ [])) None (0 ∷ []) 2 ∷ []) ≡ refused 11 ∷ []
  pub index_above_total : run (update (plain (5 ∷ [])) None (2 ∷ []) 2 ∷ []) ≡ refused 10 ∷ []
  -- a null tick never counts as yes
  pub filtered : run (update (plain (1 ∷ 2 ∷ 3 ∷ 4 ∷ [])) (Some (yes ∷ no ∷ null_tick ∷ yes ∷ [])) (0 ∷ 1 ∷ 2 ∷ 3 ∷ []) 4 ∷ all ∷ []) ≡ accepted ∷ shown (1 ∷ 0 ∷ 0 ∷ 4 ∷ []) (Some (9 ∷ [])) ∷ []
  -- when an answer has a mask
  pub no_mask_after_all : run (half_null ∷ all ∷ two ∷ all ∷ []) ≡ accepted ∷ shown (14 ∷ 0 ∷ []) (Some (1 ∷ [])) ∷ accepted ∷ shown (5 ∷ 7 ∷ []) None ∷ []
  pub mask_by_empty_filter : run (update [] (Some []) [] 0 ∷ two ∷ all ∷ []) ≡ accepted ∷ accepted ∷ shown (5 ∷ 7 ∷ []) (Some (3 ∷ [])) ∷ []
  pub no_mask_by_empty_batch : run (update [] None [] 0 ∷ two ∷ all ∷ []) ≡ accepted ∷ accepted ∷ shown (5 ∷ 7 ∷ []) None ∷ []
  pub null_remainder : run (half_null ∷ first 1 ∷ all ∷ []) ≡ accepted ∷ shown (14 ∷ []) (Some (1 ∷ [])) ∷ shown (0 ∷ []) (Some (0 ∷ [])) ∷ []

-- ── refusals of updates and evaluations ──────────────────────────────────
pub record RefusalCases : Type 0 where
  -- each at its boundary: accepted there, refused one past it
  pub rows_5 : narrow (update (plain (5 ∷ 7 ∷ 9 ∷ [])) None (0 ∷ 0 ∷ 0 ∷ []) 1 ∷ update (plain (5 ∷ 7 ∷ 9 ∷ 1 ∷ [])) None (0 ∷ 0 ∷ 0 ∷ 0 ∷ []) 1 ∷ []) ≡ accepted ∷ refused 5 ∷ []
  pub indices_6 : narrow (two ∷ update (plain (5 ∷ 7 ∷ [])) None (0 ∷ []) 2 ∷ update (plain (5 ∷ 7 ∷ [])) None (0 ∷ 1 ∷ 0 ∷ []) 2 ∷ []) ≡ accepted ∷ refused 6 ∷ refused 6 ∷ []
  pub filter_7 : narrow (update (plain (5 ∷ [])) (Some (yes ∷ [])) (0 ∷ []) 1 ∷ update (plain (5 ∷ [])) (Some []) (0 ∷ []) 1 ∷ update (plain (5 ∷ [])) (Some (yes ∷ yes ∷ [])) (0 ∷ []) 1 ∷ []) ≡ accepted ∷ refused 7 ∷ refused 7 ∷ []
  pub kept_8 : narrow (two ∷ update [] None [] 2 ∷ update [] None [] 1 ∷ []) ≡ accepted ∷ accepted ∷ refused 8 ∷ []
  pub limit_9 : narrow (two ∷ update (plain (5 ∷ [])) None (2 ∷ []) 3 ∷ []) ≡ accepted ∷ refused 9 ∷ []
  pub index_10 : narrow (two ∷ update (plain (5 ∷ [])) None (1 ∷ []) 2 ∷ update (plain (5 ∷ [])) None (2 ∷ []) 2 ∷ []) ≡ accepted ∷ accepted ∷ refused 10 ∷ []
  pub named_11 : narrow (update (plain (5 ∷ [])) None (1 ∷ []) 2 ∷ update (plain (5 ∷ [])) None (0 ∷ []) 1 ∷ update (plain (5 ∷ [])) None (1 ∷ []) 2 ∷ []) ≡ refused 11 ∷ accepted ∷ accepted ∷ []
  pub groups_13 : narrow (two ∷ first 3 ∷ first 2 ∷ first 1 ∷ []) ≡ accepted ∷ refused 13 ∷ shown (5 ∷ 7 ∷ []) None ∷ refused 13 ∷ []
  pub values_14 : narrow (two ∷ evaluate All (room 1 0) ∷ evaluate All (room 2 0) ∷ []) ≡ accepted ∷ refused 14 ∷ shown (5 ∷ 7 ∷ []) None ∷ []
  pub mask_14 : narrow (half_null ∷ evaluate All (room 2 0) ∷ evaluate All (room 2 1) ∷ []) ≡ accepted ∷ refused 14 ∷ shown (14 ∷ 0 ∷ []) (Some (1 ∷ [])) ∷ []
  -- two refusals at once: the lower number is answered
  pub rows_before_indices : narrow (update (plain (5 ∷ 7 ∷ 9 ∷ 1 ∷ [])) None (0 ∷ []) 1 ∷ []) ≡ refused 5 ∷ []
  pub indices_before_filter : narrow (update (plain (5 ∷ 7 ∷ [])) (Some (yes ∷ [])) (0 ∷ []) 1 ∷ []) ≡ refused 6 ∷ []
  pub filter_before_total : narrow (two ∷ update (plain (5 ∷ [])) (Some []) (0 ∷ []) 1 ∷ []) ≡ accepted ∷ refused 7 ∷ []
  pub limit_before_index : narrow (update (plain (5 ∷ [])) None (3 ∷ []) 3 ∷ []) ≡ refused 9 ∷ []
  pub index_before_named : narrow (update (plain (5 ∷ [])) None (2 ∷ []) 2 ∷ []) ≡ refused 10 ∷ []
  pub groups_before_buffer : narrow (two ∷ evaluate (First 3) (room 0 0) ∷ []) ≡ accepted ∷ refused 13 ∷ []
  -- each next in line, some of which no one call has together
  pub in_line : map (λ n. numbered (refusal (holding n (n + 1)))) (5 ∷ 6 ∷ 7 ∷ 8 ∷ 9 ∷ 10 ∷ 11 ∷ 12 ∷ 13 ∷ []) ≡ map (λ n. Some n) (5 ∷ 6 ∷ 7 ∷ 8 ∷ 9 ∷ 10 ∷ 11 ∷ 12 ∷ 13 ∷ [])

-- ── peek and forget ──────────────────────────────────────────────────────
pub record PeekCases : Type 0 where
  -- a peek gives state rows and changes nothing: the evaluation is as without it
  pub peeked_all : run (half_null ∷ look All ∷ []) ≡ accepted ∷ shown (14 ∷ 0 ∷ []) (Some (1 ∷ [])) ∷ []
  pub peeked_then_evaluated : run (half_null ∷ look All ∷ all ∷ []) ≡ accepted ∷ shown (14 ∷ 0 ∷ []) (Some (1 ∷ [])) ∷ shown (14 ∷ 0 ∷ []) (Some (1 ∷ [])) ∷ []
  pub evaluated_without_peek : ending (run (half_null ∷ look All ∷ all ∷ [])) ≡ ending (run (half_null ∷ all ∷ []))
  pub peeked_first : run (two ∷ look (First 0) ∷ look (First 1) ∷ look All ∷ all ∷ []) ≡ accepted ∷ shown [] None ∷ shown (5 ∷ []) None ∷ shown (5 ∷ 7 ∷ []) None ∷ shown (5 ∷ 7 ∷ []) None ∷ []
  pub peeked_fresh : run (look All ∷ []) ≡ shown [] None ∷ []
  -- it leaves the switch: marked after a null, though no group is null any more
  pub peek_leaves_marked : run (half_null ∷ look All ∷ update (plain (4 ∷ [])) None (1 ∷ []) 2 ∷ all ∷ []) ≡ accepted ∷ shown (14 ∷ 0 ∷ []) (Some (1 ∷ [])) ∷ accepted ∷ shown (14 ∷ 4 ∷ []) (Some (3 ∷ [])) ∷ []
  pub peek_leaves_plain : run (two ∷ look All ∷ update (plain (4 ∷ [])) None (1 ∷ []) 2 ∷ all ∷ []) ≡ accepted ∷ shown (5 ∷ 7 ∷ []) None ∷ accepted ∷ shown (5 ∷ 11 ∷ []) None ∷ []
  -- forgetting: the groups that are left, and what their numbers stand for
  pub forgot_first : run (half_null ∷ forget (First 1) ∷ all ∷ []) ≡ accepted ∷ accepted ∷ shown (0 ∷ []) (Some (0 ∷ [])) ∷ []
  pub forgot_none : run (half_null ∷ forget (First 0) ∷ all ∷ []) ≡ accepted ∷ accepted ∷ shown (14 ∷ 0 ∷ []) (Some (1 ∷ [])) ∷ []
  pub forgot_all : run (half_null ∷ forget All ∷ all ∷ []) ≡ accepted ∷ accepted ∷ shown [] None ∷ []
  pub forgot_fresh : run (forget All ∷ forget (First 0) ∷ all ∷ []) ≡ accepted ∷ accepted ∷ shown [] None ∷ []
  pub moved_down : run (two ∷ forget (First 1) ∷ update (plain (4 ∷ 1 ∷ [])) None (0 ∷ 1 ∷ []) 2 ∷ all ∷ []) ≡ accepted ∷ accepted ∷ accepted ∷ shown (11 ∷ 1 ∷ []) None ∷ []
  -- a peek and then a forgetting leave what an evaluation of the same groups leaves
  pub peek_and_forget : run (half_null ∷ look (First 1) ∷ forget (First 1) ∷ all ∷ []) ≡ accepted ∷ shown (14 ∷ []) (Some (1 ∷ [])) ∷ accepted ∷ shown (0 ∷ []) (Some (0 ∷ [])) ∷ []
  -- all groups reset the switch; the first ones do not, even where no group is left
  pub all_resets : run (half_null ∷ forget All ∷ two ∷ all ∷ []) ≡ accepted ∷ accepted ∷ accepted ∷ shown (5 ∷ 7 ∷ []) None ∷ []
  pub first_leaves_marked : run (half_null ∷ forget (First 1) ∷ update (plain (4 ∷ [])) None (0 ∷ []) 1 ∷ all ∷ []) ≡ accepted ∷ accepted ∷ accepted ∷ shown (4 ∷ []) (Some (1 ∷ [])) ∷ []
  pub every_first_leaves_marked : run (half_null ∷ forget (First 2) ∷ two ∷ all ∷ []) ≡ accepted ∷ accepted ∷ accepted ∷ shown (5 ∷ 7 ∷ []) (Some (3 ∷ [])) ∷ []
  -- refused past the kept groups, and for want of room; a refused call changes nothing
  pub peek_13 : narrow (two ∷ look (First 2) ∷ look (First 3) ∷ []) ≡ accepted ∷ shown (5 ∷ 7 ∷ []) None ∷ refused 13 ∷ []
  pub peek_values_14 : narrow (two ∷ peek All (room 2 0) ∷ peek All (room 1 0) ∷ []) ≡ accepted ∷ shown (5 ∷ 7 ∷ []) None ∷ refused 14 ∷ []
  pub peek_mask_14 : narrow (half_null ∷ peek All (room 2 1) ∷ peek All (room 2 0) ∷ []) ≡ accepted ∷ shown (14 ∷ 0 ∷ []) (Some (1 ∷ [])) ∷ refused 14 ∷ []
  pub peek_13_before_14 : narrow (two ∷ peek (First 3) (room 0 0) ∷ []) ≡ accepted ∷ refused 13 ∷ []
  pub forget_13 : narrow (two ∷ forget (First 3) ∷ forget (First 2) ∷ forget (First 1) ∷ []) ≡ accepted ∷ refused 13 ∷ accepted ∷ refused 13 ∷ []
  pub refused_forgets_nothing : narrow (half_null ∷ forget (First 3) ∷ all ∷ []) ≡ accepted ∷ refused 13 ∷ shown (14 ∷ 0 ∷ []) (Some (1 ∷ [])) ∷ []

-- ── merge ────────────────────────────────────────────────────────────────
pub record MergeCases : Type 0 where
  -- state rows are joined to the groups that they name, in any order, and may open groups
  pub merged_crossed : run (two ∷ merge (plain (100 ∷ 200 ∷ [])) (1 ∷ 0 ∷ []) 2 ∷ all ∷ []) ≡ accepted ∷ accepted ∷ shown (205 ∷ 107 ∷ []) None ∷ []
  pub merged_into_one : run (merge (plain (1 ∷ 2 ∷ 3 ∷ [])) (0 ∷ 0 ∷ 0 ∷ []) 1 ∷ all ∷ []) ≡ accepted ∷ shown (6 ∷ []) None ∷ []
  pub merge_opens : run (two ∷ merge (plain (1 ∷ 2 ∷ 3 ∷ [])) (3 ∷ 2 ∷ 0 ∷ []) 4 ∷ all ∷ []) ≡ accepted ∷ accepted ∷ shown (8 ∷ 7 ∷ 2 ∷ 1 ∷ []) None ∷ []
  pub merge_wraps : run (merge (plain ((2 ^ 63 - 1) ∷ 1 ∷ [])) (0 ∷ 0 ∷ []) 1 ∷ all ∷ []) ≡ accepted ∷ answered (negsuc (2 ^ 63 - 1) ∷ []) None ∷ []
  -- a null state row is the empty credit, whatever lies under it
  pub null_state_adds_nothing : run (two ∷ merge (null 9 ∷ []) (0 ∷ []) 2 ∷ all ∷ []) ≡ accepted ∷ accepted ∷ shown (5 ∷ 7 ∷ []) (Some (3 ∷ [])) ∷ []
  pub null_state_alone : run (merge (null 9 ∷ []) (0 ∷ []) 1 ∷ all ∷ []) ≡ accepted ∷ shown (0 ∷ []) (Some (0 ∷ [])) ∷ []
  -- the switch: a null row marks it; rows without one leave it as it was, even if their column had a mask
  pub plain_stays_plain : run (merge (plain (5 ∷ 7 ∷ [])) (0 ∷ 1 ∷ []) 2 ∷ all ∷ []) ≡ accepted ∷ shown (5 ∷ 7 ∷ []) None ∷ []
  pub null_marks : run (merge (cell true (pos 5) ∷ null 7 ∷ []) (0 ∷ 1 ∷ []) 2 ∷ all ∷ []) ≡ accepted ∷ shown (5 ∷ 0 ∷ []) (Some (1 ∷ [])) ∷ []
  pub marked_stays_marked : run (half_null ∷ merge (plain (4 ∷ [])) (1 ∷ []) 2 ∷ all ∷ []) ≡ accepted ∷ accepted ∷ shown (14 ∷ 4 ∷ []) (Some (3 ∷ [])) ∷ []
  pub mask_without_null : run (merge (states (half_null ∷ update (plain (4 ∷ [])) None (1 ∷ []) 2 ∷ []) All) (0 ∷ 1 ∷ []) 2 ∷ all ∷ []) ≡ accepted ∷ shown (14 ∷ 4 ∷ []) None ∷ []
  pub empty_merge_stays_plain : run (merge [] [] 0 ∷ two ∷ all ∷ []) ≡ accepted ∷ accepted ∷ shown (5 ∷ 7 ∷ []) None ∷ []
  -- each refusal at its boundary
  pub merge_5 : narrow (merge (plain (5 ∷ 7 ∷ 9 ∷ [])) (0 ∷ 0 ∷ 0 ∷ []) 1 ∷ merge (plain (5 ∷ 7 ∷ 9 ∷ 1 ∷ [])) (0 ∷ 0 ∷ 0 ∷ 0 ∷ []) 1 ∷ []) ≡ accepted ∷ refused 5 ∷ []
  pub merge_6 : narrow (two ∷ merge (plain (5 ∷ 7 ∷ [])) (0 ∷ 1 ∷ []) 2 ∷ merge (plain (5 ∷ 7 ∷ [])) (0 ∷ []) 2 ∷ merge (plain (5 ∷ 7 ∷ [])) (0 ∷ 1 ∷ 0 ∷ []) 2 ∷ []) ≡ accepted ∷ accepted ∷ refused 6 ∷ refused 6 ∷ []
  pub merge_8 : narrow (two ∷ merge [] [] 2 ∷ merge [] [] 1 ∷ []) ≡ accepted ∷ accepted ∷ refused 8 ∷ []
  pub merge_9 : narrow (merge (plain (5 ∷ 7 ∷ [])) (0 ∷ 1 ∷ []) 2 ∷ merge (plain (5 ∷ [])) (2 ∷ []) 3 ∷ []) ≡ accepted ∷ refused 9 ∷ []
  pub merge_10 : narrow (two ∷ merge (plain (5 ∷ [])) (1 ∷ []) 2 ∷ merge (plain (5 ∷ [])) (2 ∷ []) 2 ∷ []) ≡ accepted ∷ accepted ∷ refused 10 ∷ []
  pub merge_11 : narrow (merge (plain (5 ∷ [])) (1 ∷ []) 2 ∷ merge (plain (5 ∷ [])) (0 ∷ []) 1 ∷ merge (plain (5 ∷ [])) (1 ∷ []) 2 ∷ []) ≡ refused 11 ∷ accepted ∷ accepted ∷ []
  pub null_state_names_its_group : narrow (merge (null 5 ∷ null 7 ∷ []) (1 ∷ 0 ∷ []) 2 ∷ []) ≡ accepted ∷ []
  -- a refused merge changes neither groups nor switch
  pub refused_merges_nothing : run (two ∷ merge (null 9 ∷ null 9 ∷ []) (0 ∷ []) 2 ∷ all ∷ []) ≡ accepted ∷ refused 6 ∷ shown (5 ∷ 7 ∷ []) None ∷ []
  -- the lower number of two; there is no filter, so 7 is never the answer
  pub merge_5_before_6 : narrow (merge (plain (5 ∷ 7 ∷ 9 ∷ 1 ∷ [])) (0 ∷ []) 1 ∷ []) ≡ refused 5 ∷ []
  pub merge_6_before_8 : narrow (two ∷ merge (plain (5 ∷ [])) [] 1 ∷ []) ≡ accepted ∷ refused 6 ∷ []
  pub merge_8_before_10 : narrow (two ∷ merge (plain (5 ∷ [])) (1 ∷ []) 1 ∷ []) ≡ accepted ∷ refused 8 ∷ []
  pub merge_9_before_10 : narrow (merge (plain (5 ∷ [])) (3 ∷ []) 3 ∷ []) ≡ refused 9 ∷ []
  pub merge_10_before_11 : narrow (merge (plain (5 ∷ [])) (2 ∷ []) 2 ∷ []) ≡ refused 10 ∷ []
  pub merge_never_7 : (m : Means sums) (rows : List (Cell ℤ)) (groups : List ℕ) (total : ℕ) → is_number 7 (merge_refusal sums m rows groups total) ≡ false

-- ── conversion ───────────────────────────────────────────────────────────
-- rows that are valid, null, kept out, under a null tick and valid, for groups 0, 1, 0, 1 and 2
abbrev pub mixed_rows : List (Cell ℤ)
mixed_rows = cell true (pos 5) ∷ null 7 ∷ cell true (pos 9) ∷ cell true (pos 4) ∷ cell true (pos 2) ∷ []

abbrev pub mixed_ticks : Ticks
mixed_ticks = Some (yes ∷ yes ∷ no ∷ null_tick ∷ yes ∷ [])

abbrev pub mixed_groups : List ℕ
mixed_groups = 0 ∷ 1 ∷ 0 ∷ 1 ∷ 2 ∷ []

abbrev pub turn : List (Cell ℤ) → Ticks → Call ℤ
turn rows ticks = convert rows ticks ample

pub record ConvertCases : Type 0 where
  -- a state row for each row, with a mask always, and the start value under each null
  pub converted_mixed : run (turn mixed_rows mixed_ticks ∷ []) ≡ shown (5 ∷ 0 ∷ 0 ∷ 0 ∷ 2 ∷ []) (Some (17 ∷ [])) ∷ []
  pub converted_unfiltered : run (turn mixed_rows None ∷ []) ≡ shown (5 ∷ 0 ∷ 9 ∷ 4 ∷ 2 ∷ []) (Some (29 ∷ [])) ∷ []
  pub converted_plain : run (turn (plain (5 ∷ 7 ∷ [])) None ∷ []) ≡ shown (5 ∷ 7 ∷ []) (Some (3 ∷ [])) ∷ []
  pub converted_nothing : run (turn [] None ∷ turn [] (Some []) ∷ []) ≡ shown [] (Some []) ∷ shown [] (Some []) ∷ []
  pub ninth_row : run (turn (plain (1 ∷ 2 ∷ 3 ∷ 4 ∷ 5 ∷ 6 ∷ 7 ∷ 8 ∷ 9 ∷ [])) None ∷ []) ≡ shown (1 ∷ 2 ∷ 3 ∷ 4 ∷ 5 ∷ 6 ∷ 7 ∷ 8 ∷ 9 ∷ []) (Some (255 ∷ 1 ∷ [])) ∷ []
  -- merged, they are what an update by the rows is
  pub converted_then_merged : run (merge (cells (converted sums mixed_rows mixed_ticks)) mixed_groups 3 ∷ all ∷ []) ≡ accepted ∷ shown (5 ∷ 0 ∷ 2 ∷ []) (Some (5 ∷ [])) ∷ []
  pub updated_at_once : run (update mixed_rows mixed_ticks mixed_groups 3 ∷ all ∷ []) ≡ accepted ∷ shown (5 ∷ 0 ∷ 2 ∷ []) (Some (5 ∷ [])) ∷ []
  -- it changes neither groups nor switch, and of the meaning it reads the most rows alone
  pub converts_aside : run (two ∷ turn mixed_rows mixed_ticks ∷ all ∷ []) ≡ accepted ∷ shown (5 ∷ 0 ∷ 0 ∷ 0 ∷ 2 ∷ []) (Some (17 ∷ [])) ∷ shown (5 ∷ 7 ∷ []) None ∷ []
  pub converts_beside_nulls : run (half_null ∷ turn (plain (4 ∷ [])) None ∷ all ∷ []) ≡ accepted ∷ shown (4 ∷ []) (Some (1 ∷ [])) ∷ shown (14 ∷ 0 ∷ []) (Some (1 ∷ [])) ∷ []
  pub by_rows_and_limit : (m k : Means sums) (rows : List (Cell ℤ)) (ticks : Ticks) (out : Room) → m.most_rows ≡ k.most_rows → convert_refusal sums values_layout m rows ticks out ≡ convert_refusal sums values_layout k rows ticks out
  -- each refusal at its boundary; the most groups are not looked at
  pub convert_5 : narrow (turn (plain (5 ∷ 7 ∷ 9 ∷ [])) None ∷ turn (plain (5 ∷ 7 ∷ 9 ∷ 1 ∷ [])) None ∷ []) ≡ shown (5 ∷ 7 ∷ 9 ∷ []) (Some (7 ∷ [])) ∷ refused 5 ∷ []
  pub convert_7 : narrow (turn (plain (5 ∷ [])) (Some (yes ∷ [])) ∷ turn (plain (5 ∷ [])) (Some []) ∷ turn (plain (5 ∷ [])) (Some (yes ∷ yes ∷ [])) ∷ []) ≡ shown (5 ∷ []) (Some (1 ∷ [])) ∷ refused 7 ∷ refused 7 ∷ []
  pub convert_14 : narrow (convert (plain (5 ∷ 7 ∷ [])) None (room 2 1) ∷ convert (plain (5 ∷ 7 ∷ [])) None (room 1 1) ∷ convert (plain (5 ∷ 7 ∷ [])) None (room 2 0) ∷ []) ≡ shown (5 ∷ 7 ∷ []) (Some (3 ∷ [])) ∷ refused 14 ∷ refused 14 ∷ []
  pub convert_5_before_7 : narrow (turn (plain (5 ∷ 7 ∷ 9 ∷ 1 ∷ [])) (Some (yes ∷ [])) ∷ []) ≡ refused 5 ∷ []
  pub convert_7_before_14 : narrow (convert (plain (5 ∷ 7 ∷ [])) (Some (yes ∷ [])) (room 0 0) ∷ []) ≡ refused 7 ∷ []
  pub convert_5_before_14 : narrow (convert (plain (5 ∷ 7 ∷ 9 ∷ 1 ∷ [])) None (room 0 0) ∷ []) ≡ refused 5 ∷ []

-- ── division ─────────────────────────────────────────────────────────────
-- six rows of three groups, and their two halves
abbrev pub whole : Call ℤ
whole = update (cell true (pos 1) ∷ cell true (pos 2) ∷ cell true (pos 3) ∷ cell true (pos 4) ∷ null 5 ∷ cell true (pos 6) ∷ []) None (0 ∷ 1 ∷ 2 ∷ 0 ∷ 1 ∷ 2 ∷ []) 3

abbrev pub front_half : Call ℤ
front_half = update (plain (1 ∷ 2 ∷ 3 ∷ [])) None (0 ∷ 1 ∷ 2 ∷ []) 3

abbrev pub back_half : Call ℤ
back_half = update (cell true (pos 4) ∷ null 5 ∷ cell true (pos 6) ∷ []) None (0 ∷ 1 ∷ 2 ∷ []) 3

-- the back half under other group numbers: 2, 0 and 1 for 0, 1 and 2
abbrev pub back_renumbered : Call ℤ
back_renumbered = update (cell true (pos 4) ∷ null 5 ∷ cell true (pos 6) ∷ []) None (2 ∷ 0 ∷ 1 ∷ []) 3

pub record DivisionCases : Type 0 where
  pub undivided : run (whole ∷ all ∷ []) ≡ accepted ∷ shown (5 ∷ 2 ∷ 9 ∷ []) (Some (7 ∷ [])) ∷ []
  -- two updates of one accumulator
  pub in_two_updates : ending (run (front_half ∷ back_half ∷ all ∷ [])) ≡ ending (run (whole ∷ all ∷ []))
  -- two accumulators, either peeked and merged into the other
  pub front_into_back : ending (run (back_half ∷ merge (states (front_half ∷ []) All) (0 ∷ 1 ∷ 2 ∷ []) 3 ∷ all ∷ [])) ≡ ending (run (whole ∷ all ∷ []))
  pub back_into_front : ending (run (front_half ∷ merge (states (back_half ∷ []) All) (0 ∷ 1 ∷ 2 ∷ []) 3 ∷ all ∷ [])) ≡ ending (run (whole ∷ all ∷ []))
  pub both_into_fresh : ending (run (merge (states (front_half ∷ []) All) (0 ∷ 1 ∷ 2 ∷ []) 3 ∷ merge (states (back_half ∷ []) All) (0 ∷ 1 ∷ 2 ∷ []) 3 ∷ all ∷ [])) ≡ ending (run (whole ∷ all ∷ []))
  -- group numbers of its own, and a state that goes over in two pieces
  pub renumbered_into_front : ending (run (front_half ∷ merge (states (back_renumbered ∷ []) All) (1 ∷ 2 ∷ 0 ∷ []) 3 ∷ all ∷ [])) ≡ ending (run (whole ∷ all ∷ []))
  pub in_two_pieces : ending (run (front_half ∷ merge (states (back_half ∷ []) (First 1)) (0 ∷ []) 3 ∷ merge (states (back_half ∷ forget (First 1) ∷ []) All) (1 ∷ 2 ∷ []) 3 ∷ all ∷ [])) ≡ ending (run (whole ∷ all ∷ []))
  -- a part in which not every group occurs
  pub one_group_apart : ending (run (update (plain (1 ∷ 2 ∷ [])) None (0 ∷ 1 ∷ []) 2 ∷ merge (states (update (plain (3 ∷ [])) None (0 ∷ []) 1 ∷ []) All) (2 ∷ []) 3 ∷ all ∷ [])) ≡ ending (run (front_half ∷ all ∷ []))

-- ── booleans ─────────────────────────────────────────────────────────────
-- rows of one group, and rows of a group each
abbrev pub together : List (Cell Bool) → Call Bool
together rows = update rows None (map (λ c. 0) rows) 1

abbrev pub eight_bits : List Bool
eight_bits = true ∷ false ∷ true ∷ false ∷ true ∷ false ∷ true ∷ false ∷ []

abbrev pub eight : Call Bool
eight = update (bits eight_bits) None (0 ∷ 1 ∷ 2 ∷ 3 ∷ 4 ∷ 5 ∷ 6 ∷ 7 ∷ []) 8

-- with one more, true or null
abbrev pub ninth : Cell Bool → Call Bool
ninth c = update (c ∷ []) None (8 ∷ []) 9

pub record BooleanCases : Type 0 where
  -- one group: nulls do not count
  pub and_passes_over_null : decide ands (together (yes ∷ null_bit false ∷ yes ∷ []) ∷ all ∷ []) ≡ accepted ∷ answered (1 ∷ []) (Some (1 ∷ [])) ∷ []
  pub and_with_false : decide ands (together (yes ∷ no ∷ yes ∷ []) ∷ all ∷ []) ≡ accepted ∷ answered (0 ∷ []) None ∷ []
  pub or_passes_over_null : decide ors (together (no ∷ null_bit true ∷ no ∷ []) ∷ all ∷ []) ≡ accepted ∷ answered (0 ∷ []) (Some (1 ∷ [])) ∷ []
  pub or_with_true : decide ors (together (no ∷ yes ∷ no ∷ []) ∷ all ∷ []) ≡ accepted ∷ answered (1 ∷ []) None ∷ []
  pub xor_of_two : decide xors (together (yes ∷ yes ∷ []) ∷ all ∷ []) ≡ accepted ∷ answered (0 ∷ []) None ∷ []
  pub xor_of_three : decide xors (together (yes ∷ yes ∷ yes ∷ []) ∷ all ∷ []) ≡ accepted ∷ answered (1 ∷ []) None ∷ []
  pub xor_passes_over_null : decide xors (together (yes ∷ null_bit true ∷ no ∷ []) ∷ all ∷ []) ≡ accepted ∷ answered (1 ∷ []) (Some (1 ∷ [])) ∷ []
  -- no value at all: null over the start value
  pub and_of_nothing : decide ands (together (null_bit false ∷ []) ∷ all ∷ []) ≡ accepted ∷ answered (1 ∷ []) (Some (0 ∷ [])) ∷ []
  pub or_of_nothing : decide ors (together (null_bit true ∷ []) ∷ all ∷ []) ≡ accepted ∷ answered (0 ∷ []) (Some (0 ∷ [])) ∷ []
  pub xor_of_nothing : decide xors (together (null_bit true ∷ []) ∷ all ∷ []) ≡ accepted ∷ answered (0 ∷ []) (Some (0 ∷ [])) ∷ []
  -- packed answers of eight and nine groups, and of those that are left by a removal
  pub eight_groups : decide ors (eight ∷ all ∷ []) ≡ accepted ∷ answered (85 ∷ []) None ∷ []
  pub nine_groups : decide ors (eight ∷ ninth yes ∷ all ∷ []) ≡ accepted ∷ accepted ∷ answered (85 ∷ 1 ∷ []) None ∷ []
  pub nine_with_null : decide ors (eight ∷ ninth (null_bit true) ∷ all ∷ []) ≡ accepted ∷ accepted ∷ answered (85 ∷ 0 ∷ []) (Some (255 ∷ 0 ∷ [])) ∷ []
  pub bits_move_down : decide ors (eight ∷ ninth yes ∷ first 1 ∷ all ∷ []) ≡ accepted ∷ accepted ∷ answered (1 ∷ []) None ∷ answered (170 ∷ []) None ∷ []
  -- the room that they need
  pub eight_in_one_byte : decide ors (eight ∷ evaluate All (room 0 0) ∷ evaluate All (room 1 0) ∷ []) ≡ accepted ∷ refused 14 ∷ answered (85 ∷ []) None ∷ []
  pub nine_in_two_bytes : decide ors (eight ∷ ninth yes ∷ evaluate All (room 1 0) ∷ evaluate All (room 2 0) ∷ []) ≡ accepted ∷ accepted ∷ refused 14 ∷ answered (85 ∷ 1 ∷ []) None ∷ []
  pub nine_and_mask : decide ors (eight ∷ ninth (null_bit true) ∷ evaluate All (room 2 1) ∷ evaluate All (room 2 2) ∷ []) ≡ accepted ∷ accepted ∷ refused 14 ∷ answered (85 ∷ 0 ∷ []) (Some (255 ∷ 0 ∷ [])) ∷ []
  -- state rows: peeked, merged crosswise, and converted, with the start value under each null
  pub bits_peeked : decide ors (eight ∷ look (First 3) ∷ peek All (room 0 0) ∷ peek All (room 1 0) ∷ []) ≡ accepted ∷ answered (5 ∷ []) None ∷ refused 14 ∷ answered (85 ∷ []) None ∷ []
  pub bits_merged : decide xors (merge (yes ∷ no ∷ []) (0 ∷ 1 ∷ []) 2 ∷ merge (yes ∷ yes ∷ []) (1 ∷ 0 ∷ []) 2 ∷ all ∷ []) ≡ accepted ∷ accepted ∷ answered (2 ∷ []) None ∷ []
  pub bits_converted_by_and : decide ands (convert (yes ∷ null_bit false ∷ no ∷ no ∷ no ∷ []) (Some (yes ∷ yes ∷ no ∷ null_tick ∷ yes ∷ [])) (room 1 1) ∷ []) ≡ answered (15 ∷ []) (Some (17 ∷ [])) ∷ []
  pub bits_converted_by_or : decide ors (convert (yes ∷ null_bit true ∷ yes ∷ yes ∷ no ∷ []) (Some (yes ∷ yes ∷ no ∷ null_tick ∷ yes ∷ [])) (room 1 1) ∷ []) ≡ answered (1 ∷ []) (Some (17 ∷ [])) ∷ []

-- ── readings that are wrong ──────────────────────────────────────────────
-- each is worked out beside a case in which the definitions reply otherwise
-- a tick by its bit alone
abbrev pub by_bit : Cell Bool → Cell Bool
by_bit t = cell true t.figure

abbrev pub four_ticks : List (Cell Bool)
four_ticks = yes ∷ no ∷ null_tick ∷ yes ∷ []

abbrev pub ticked_by : List (Cell Bool) → Call ℤ
ticked_by ts = update (plain (1 ∷ 2 ∷ 3 ∷ 4 ∷ [])) (Some ts) (0 ∷ 1 ∷ 2 ∷ 3 ∷ []) 4

-- after the first n groups are removed: values moved down, marks left in their places
abbrev pub marks_in_place : ℕ → Column ℤ → Column ℤ
marks_in_place n c = record { mask = option_map (take (length c.figures - n)) c.mask; figures = drop n c.figures }

abbrev pub evaluated : Means sums → Reply ℤ
evaluated m = handed_out (λ ns. ns) (answer sums m All)

-- after all groups are removed: the switch as it was
abbrev pub switch_kept : Means sums → Means sums
switch_kept m = with_credits sums m [] m.marked

-- a null row's credit by what lies under it
abbrev pub by_figure : Cell ℤ → Cell ℤ
by_figure c = cell true c.figure

pub record ReadingCases : Type 0 where
  -- a null tick is no yes, though its bit is set
  pub null_tick_is_no : run (ticked_by four_ticks ∷ all ∷ []) ≡ accepted ∷ shown (1 ∷ 0 ∷ 0 ∷ 4 ∷ []) (Some (9 ∷ [])) ∷ []
  pub if_by_bit : run (ticked_by (map by_bit four_ticks) ∷ all ∷ []) ≡ accepted ∷ shown (1 ∷ 0 ∷ 3 ∷ 4 ∷ []) (Some (13 ∷ [])) ∷ []
  -- the group that is left shows its own mark, not that of the group that was removed
  pub mark_of_its_own : evaluated (meant (half_null ∷ first 1 ∷ [])) ≡ shown (0 ∷ []) (Some (0 ∷ []))
  pub if_marks_in_place : handed_out (λ ns. ns) (marks_in_place 1 (answer sums (meant (half_null ∷ [])) All)) ≡ shown (0 ∷ []) (Some (1 ∷ []))
  -- an evaluation of all groups makes the switch plain
  pub all_makes_plain : evaluated (updated sums (meant (half_null ∷ all ∷ [])) (plain (5 ∷ [])) None (0 ∷ []) 1) ≡ shown (5 ∷ []) None
  pub if_switch_kept : evaluated (updated sums (switch_kept (meant (half_null ∷ []))) (plain (5 ∷ [])) None (0 ∷ []) 1) ≡ shown (5 ∷ []) (Some (1 ∷ []))
  -- what lies under a null state row is not read
  pub null_state_is_empty : run (two ∷ merge (null 9 ∷ []) (0 ∷ []) 2 ∷ all ∷ []) ≡ accepted ∷ accepted ∷ shown (5 ∷ 7 ∷ []) (Some (3 ∷ [])) ∷ []
  pub if_by_figure : run (two ∷ merge (map by_figure (null 9 ∷ [])) (0 ∷ []) 2 ∷ all ∷ []) ≡ accepted ∷ accepted ∷ shown (14 ∷ 7 ∷ []) None ∷ []

-- ── the table ────────────────────────────────────────────────────────────
pub record WorkedCases : Type 0 where
  pub columns : ColumnCases
  pub views : ViewCases
  pub of_buffers : BufferCases
  pub of_sums : SumCases
  pub refusals : RefusalCases
  pub peeks : PeekCases
  pub merges : MergeCases
  pub conversions : ConvertCases
  pub divisions : DivisionCases
  pub booleans : BooleanCases
  pub readings : ReadingCases
