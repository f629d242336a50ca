-- The kind of distinct counts.
--
--     Credit same               different keys, by first arrival
--     distinct same             the kind: the credit's keys are its state row, their number is shown
--     ListsValues rows ks       ks has each value of the rows, no other, and none twice
--     CountsDifferentValues     what is shown of rows, in terms of their values alone
use Rattle.std.specs.Prelude.{◌≡◌, Bool, true, List, [], ◌∷◌, length, ℤ, pos, Some, None, Option}
use Rattle.std.specs.List.{Contains}
use Rattle.groups.specs.Kind.{Kind, joined, always_plain}
use Rattle.distinct.specs.Members.{has, Different, with_all, different}
use Rattle.distinct.specs.Apart.{none_different, one_different, with_all_different}

-- that they are different has one proof at most, so a credit is its keys
pub record Credit {K : Type 0} (same : K → K → Bool) : Type 0 where
  pub items : List K
  pub apart : Different same items

module _ {K : Type 0} (same : K → K → Bool) where
  abbrev pub none : Credit same
  none = record { items = []; apart = none_different same }

  abbrev pub join : Credit same → Credit same → Credit same
  join a b = record { items = with_all same a.items b.items; apart = with_all_different same a.items b.items a.apart }

  abbrev pub of_row : Option K → Credit same
  of_row None = none
  of_row (Some x) = record { items = x ∷ []; apart = one_different same x }

  abbrev pub of_state : List K → Credit same
  of_state xs = record { items = different same xs; apart = with_all_different same [] xs (none_different same) }

  abbrev pub distinct : Kind K (List K) ℤ
  distinct =
      record {
        Credit = Credit same;
        empty = none;
        join = join;
        of_row = of_row;
        of_state = of_state;
        written = λ c. Some c.items;
        under = [];
        shown = λ c. Some (pos (length c.items));
        filler = pos 0;
        Alike = λ a b. (k : K) → has same a.items k ≡ has same b.items k;
        pairs = λ c. length c.items;
        switch = always_plain;
      }

  pub record ListsValues (rows : List (Option K)) (ks : List K) : Type 0 where
    pub once : Different same ks
    pub each : (v : K) → Contains rows (Some v) → (k : K) × Contains ks k × (same k v ≡ true)
    pub only : (k : K) → Contains ks k → (v : K) × Contains rows (Some v) × (same k v ≡ true)

  pub record CountsDifferentValues : Type 0 where
    -- the rows' values are listed by their credit's keys
    pub kept : (rows : List (Option K)) → ListsValues rows (joined distinct rows).items
    -- and whatever lists them is as long as the number shown
    pub count : (rows : List (Option K)) (ks : List K) → ListsValues rows ks → distinct.shown (joined distinct rows) ≡ Some (pos (length ks))
