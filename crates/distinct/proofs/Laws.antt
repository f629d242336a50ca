-- The laws of distinct counts.
use Rattle.std.proofs.Common.{◌≡◌, ℕ, Bool, ◌||◌, [], get_or, pos, Some, false, sym, refl, ap, ◌∙◌, arith}
use mathlib.Core.HLevel.{is_prop→PathP}
use Rattle.std.proofs.Math.Bool.{Bool-set, or_comm}
use Rattle.groups.specs.Kind.{Laws, Commutes, by_nulls, always_plain}
use Rattle.std.specs.Cmp.{IsEquivalence}
use Rattle.distinct.specs.Members.{has, Different}
use Rattle.distinct.specs.Distinct.{Credit, distinct}
use Rattle.distinct.proofs.Members.{has_with_all, with_all_assoc, as_many}

clash : {A : Type 0} → always_plain ≡ by_nulls → A
clash e = let z : ◌≡◌ {A = ℕ} 0 1 = cc in absurd (omega arith)

-- a credit is its keys
pub same_credit : {K : Type 0} {same : K → K → Bool} (a b : Credit same) → a.items ≡ b.items → a ≡ b
same_credit {K} {same} a b p = λ i. record { items = p i; apart = is_prop→PathP (λ j. Different same (p j)) (λ j f g h x y d l m. Bool-set (same (get_or (p j) x d) (get_or (p j) y d)) false (f x y d l m) (g x y d l m) h) a.apart b.apart i }

module _ {K : Type 0} {same : K → K → Bool} (e : IsEquivalence same) where
  pub distinct_laws : Laws (distinct same)
  distinct_laws =
      record {
        alike_refl = λ a k. refl;
        alike_sym = λ a b p k. sym (p k);
        alike_trans = λ a b c p q k. p k ∙ q k;
        join_alike = λ a b c d p q k.
            has_with_all e a.items c.items k
            ∙ ap (λ x. x || has same c.items k) (p k)
            ∙ ap (λ x. has same b.items k || x) (q k)
            ∙ sym (has_with_all e b.items d.items k);
        left = λ a k. has_with_all e [] a.items k;
        right = λ a k. refl;
        assoc = λ a b c k. ap (λ xs. has same xs k) (sym (with_all_assoc e a.items b.items c.items));
        shows = λ a b p. ap (λ n. Some (pos n)) (as_many e a.items b.items a.apart b.apart p);
        takes = λ a b p. as_many e a.items b.items a.apart b.apart p;
        reads = λ a k. has_with_all e [] a.items k;
        plain_clear = λ p a. (refl, refl);
        row_clear = λ p a v. clash p;
        state_clear = λ p a s. clash p;
      }

  pub distinct_commutes : Commutes (distinct same)
  distinct_commutes a b k =
      has_with_all e a.items b.items k
      ∙ or_comm (has same a.items k) (has same b.items k)
      ∙ sym (has_with_all e b.items a.items k)
