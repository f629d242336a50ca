-- Orders of values, and the lesser and the greater of two. The lemmas stand among the specifications since a type hands its
-- own out with its order.
--
--     Order UpTo rank         rank compares two values by the order, and values that are up to each other are one
--     UpTo a b                of stamps: an earlier second, or the same second and a depot that is not higher
--     Picks UpTo rule         the rule's answer is one of its two values, and both are up to it
--     least, greatest         the lesser and the greater by an order combine
--     whole_numbers, stamps   the orders of signed numbers and of stamps
use Rattle.std.specs.Prelude.{◌≡◌, ◌<◌, ◌≤◌, true, false, ◌⊎◌, ℤ, ◌≤ℤ◌}
use Rattle.std.proofs.Common.{Ordering, Less, Equal, Greater, refl, ◌<ℤ◌, sym, inl, inr, subst, ⊎_elim, arith}
use Rattle.std.specs.Ordering.{is_lt, ord_min, ord_max, on, then_cmp, ordering_then, nat_cmp, int_cmp, MatchOrdering}
use Rattle.std.proofs.lemmas.Int.{ints}
use Rattle.std.proofs.lemmas.Cmp.{ranked, int_ranked}
use Rattle.std.proofs.lemmas.Bool.{true≢false, cases_Bool, cond-true, cond-false, cond_both}
use Rattle.operations.specs.declared.operation.Stamp.{Stamp}
use Rattle.operations.specs.Primitive.{Combines}

pub record Order {E : Type 0} (UpTo : E → E → Type 0) (rank : E → E → Ordering) : Type 0 where
  pub below : (a b : E) → is_lt (rank a b) ≡ true → UpTo a b
  pub not_below : (a b : E) → is_lt (rank a b) ≡ false → UpTo b a
  pub onward : (a b c : E) → UpTo a b → UpTo b c → UpTo a c
  pub level : (a b : E) → UpTo a b → UpTo b a → a ≡ b

abbrev pub UpTo : Stamp → Stamp → Type 0
UpTo a b = (a.second < b.second) ⊎ ((a.second ≡ b.second) × (a.depot ≤ b.depot))

-- ── a rule whose answer is one of two values, and neither is past it ─────
pub record Picks {E : Type 0} (UpTo : E → E → Type 0) (rule : E → E → E) : Type 0 where
  pub either : (a b : E) → (rule a b ≡ a) ⊎ (rule a b ≡ b)
  pub left : (a b : E) → UpTo a (rule a b)
  pub right : (a b : E) → UpTo b (rule a b)

module _ {E : Type 0} {UpTo : E → E → Type 0} {rule : E → E → E} (onward : (a b c : E) → UpTo a b → UpTo b c → UpTo a c) (level : (a b : E) → UpTo a b → UpTo b a → a ≡ b) (p : Picks UpTo rule) where
  within : (a b m : E) → UpTo a m → UpTo b m → UpTo (rule a b) m
  within a b m h k = ⊎_elim (λ e. subst (λ x. UpTo x m) (sym e) h) (λ e. subst (λ x. UpTo x m) (sym e) k) (p.either a b)

  pub picks_combine : Combines rule
  picks_combine =
      record {
        assoc = λ a b c.
            let ab = rule a b in
            let bc = rule b c in
            level (rule ab c) (rule a bc)
            (within ab c (rule a bc) (within a b (rule a bc) (p.left a bc) (onward b bc (rule a bc) (p.left b c) (p.right a bc))) (onward c bc (rule a bc) (p.right b c) (p.right a bc)))
            (within a bc (rule ab c) (onward a ab (rule ab c) (p.left a b) (p.left ab c)) (within b c (rule ab c) (onward b ab (rule ab c) (p.right a b) (p.left ab c)) (p.right ab c)));
        comm = λ a b. level (rule a b) (rule b a) (within a b (rule b a) (p.right b a) (p.left b a)) (within b a (rule a b) (p.right a b) (p.left a b));
      }

module _ {E : Type 0} {UpTo : E → E → Type 0} {rank : E → E → Ordering} (o : Order UpTo rank) where
  pub itself : (a : E) → UpTo a a
  itself a = ⊎_elim (o.below a a) (o.not_below a a) (cases_Bool (is_lt (rank a a)))

  pub lesser_picks : Picks (λ a b. UpTo b a) (ord_min rank)
  lesser_picks =
      record {
        either = λ a b. ⊎_elim (λ t. inr (cond-true (is_lt (rank b a)) b a t)) (λ f. inl (cond-false (is_lt (rank b a)) b a f)) (cases_Bool (is_lt (rank b a)));
        left = λ a b. cond_both (is_lt (rank b a)) b a (λ m. UpTo m a) (o.below b a) (λ f. itself a);
        right = λ a b. cond_both (is_lt (rank b a)) b a (λ m. UpTo m b) (λ t. itself b) (o.not_below b a);
      }

  pub greater_picks : Picks UpTo (ord_max rank)
  greater_picks =
      record {
        either = λ a b. ⊎_elim (λ t. inl (cond-true (is_lt (rank b a)) a b t)) (λ f. inr (cond-false (is_lt (rank b a)) a b f)) (cases_Bool (is_lt (rank b a)));
        left = λ a b. cond_both (is_lt (rank b a)) a b (λ m. UpTo a m) (λ t. itself a) (o.not_below b a);
        right = λ a b. cond_both (is_lt (rank b a)) a b (λ m. UpTo b m) (o.below b a) (λ f. itself b);
      }

  pub least : Combines (ord_min rank)
  least = picks_combine (λ a b c p q. o.onward c b a q p) (λ a b p q. o.level a b q p) lesser_picks

  pub greatest : Combines (ord_max rank)
  greatest = picks_combine o.onward o.level greater_picks

-- ── the orders ───────────────────────────────────────────────────────────
whole_below : (a b : ℤ) (r : Ordering) → MatchOrdering r (a <ℤ b) (a ≡ b) (b <ℤ a) → is_lt r ≡ true → a ≤ℤ b
whole_below a b Less m h = omega (arith, ints)
whole_below a b Equal m h = absurd (true≢false (sym h))
whole_below a b Greater m h = absurd (true≢false (sym h))

whole_not_below : (a b : ℤ) (r : Ordering) → MatchOrdering r (a <ℤ b) (a ≡ b) (b <ℤ a) → is_lt r ≡ false → b ≤ℤ a
whole_not_below a b Less m h = absurd (true≢false h)
whole_not_below a b Equal m h = omega (arith, ints, m)
whole_not_below a b Greater m h = omega (arith, ints)

pub whole_numbers : Order ◌≤ℤ◌ int_cmp
whole_numbers =
    record {
      below = λ a b. whole_below a b (int_cmp a b) (int_ranked a b (int_cmp a b) refl);
      not_below = λ a b. whole_not_below a b (int_cmp a b) (int_ranked a b (int_cmp a b) refl);
      onward = λ a b c p q. omega (arith, ints);
      level = λ a b p q. omega (arith, ints);
    }

stamp_below : (a b : Stamp) (r s : Ordering) → MatchOrdering r (a.second < b.second) (a.second ≡ b.second) (b.second < a.second) → MatchOrdering s (a.depot < b.depot) (a.depot ≡ b.depot) (b.depot < a.depot) → is_lt (ordering_then r s) ≡ true → UpTo a b
stamp_below a b Less s m n h = inl m
stamp_below a b Equal Less m n h = inr (m, omega arith)
stamp_below a b Equal Equal m n h = absurd (true≢false (sym h))
stamp_below a b Equal Greater m n h = absurd (true≢false (sym h))
stamp_below a b Greater s m n h = absurd (true≢false (sym h))

stamp_not_below : (a b : Stamp) (r s : Ordering) → MatchOrdering r (a.second < b.second) (a.second ≡ b.second) (b.second < a.second) → MatchOrdering s (a.depot < b.depot) (a.depot ≡ b.depot) (b.depot < a.depot) → is_lt (ordering_then r s) ≡ false → UpTo b a
stamp_not_below a b Less s m n h = absurd (true≢false h)
stamp_not_below a b Equal Less m n h = absurd (true≢false h)
stamp_not_below a b Equal Equal m n h = inr (sym m, omega (arith, n))
stamp_not_below a b Equal Greater m n h = inr (sym m, omega arith)
stamp_not_below a b Greater s m n h = inl m

stamp_onward : (a b c : Stamp) → UpTo a b → UpTo b c → UpTo a c
stamp_onward a b c (inl p) (inl q) = inl (omega arith)
stamp_onward a b c (inl p) (inr q) = inl (omega arith)
stamp_onward a b c (inr p) (inl q) = inl (omega arith)
stamp_onward a b c (inr p) (inr q) = inr (omega arith, omega arith)

same_stamp : (a b : Stamp) → a.second ≡ b.second → a.depot ≡ b.depot → a ≡ b
same_stamp a b p q = λ i. record { second = p i; depot = q i }

pub stamps : Order UpTo (then_cmp (on (λ s. s.second) nat_cmp) (on (λ s. s.depot) nat_cmp))
stamps =
    record {
      below = λ a b. stamp_below a b (nat_cmp a.second b.second) (nat_cmp a.depot b.depot) (ranked a.second b.second _ refl) (ranked a.depot b.depot _ refl);
      not_below = λ a b. stamp_not_below a b (nat_cmp a.second b.second) (nat_cmp a.depot b.depot) (ranked a.second b.second _ refl) (ranked a.depot b.depot _ refl);
      onward = stamp_onward;
      level = λ a b p q. same_stamp a b (omega (arith, p, q)) (omega (arith, p, q));
    }

-- a stamp that compares as less is of an earlier second, or of the same second and a lower depot
pub stamp_before : (a b : Stamp) → is_lt (then_cmp (on (λ s. s.second) nat_cmp) (on (λ s. s.depot) nat_cmp) a b) ≡ true → (a.second < b.second) ⊎ ((a.second ≡ b.second) × (a.depot < b.depot))
stamp_before a b = before (nat_cmp a.second b.second) (nat_cmp a.depot b.depot) (ranked a.second b.second _ refl) (ranked a.depot b.depot _ refl)
  where
    before : (r s : Ordering) → MatchOrdering r (a.second < b.second) (a.second ≡ b.second) (b.second < a.second) → MatchOrdering s (a.depot < b.depot) (a.depot ≡ b.depot) (b.depot < a.depot) → is_lt (ordering_then r s) ≡ true → (a.second < b.second) ⊎ ((a.second ≡ b.second) × (a.depot < b.depot))
    before Less s m n h = inl m
    before Equal Less m n h = inr (m, n)
    before Equal Equal m n h = absurd (true≢false (sym h))
    before Equal Greater m n h = absurd (true≢false (sym h))
    before Greater s m n h = absurd (true≢false (sym h))
