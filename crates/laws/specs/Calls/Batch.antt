-- When a batch is refused: the test's cases; what a batch has that is not refused; and that the test and the lines of Q-7's table agree, as
-- those of a call do.
-- Assumes nothing.
use Rattle.std.specs.Prelude.{ℕ, ◌+◌, ◌*◌, ◌^◌, ◌≤◌, ◌<◌, true, false, ◌&&◌, ◌||◌, ◌⊎◌, ◌≢◌, ◌≡◌, refl, eqb, leb, length}
use Rattle.std.proofs.Math.Decide.{ℕ_discrete, dec_lt}
use native.Mathlib.Omega.{arith}
use Rattle.std.proofs.Math.Bool.{not}
use Rattle.std.proofs.Math.Logic.{inl, inr, ⊎_elim, by_cases}
use Rattle.std.proofs.Common.{ap, ◌∙◌}
use borrow.Author.Tests.{eqb-true, leb-true, leb-false, eq-eqb, le-leb, lt-leb, not-true, not-false}
use Rattle.rules.specs.declared.batch.Totals.{Totals}
use Rattle.rules.specs.Heap.{Heap}
use Rattle.rules.specs.Sound.{Ready}
use Rattle.rules.specs.Check.{fits, sound}
use Rattle.rules.specs.Refusals.{Reason, number, lowest}
use Rattle.rules.specs.Refusals.Reason.{SIZE, DAMAGED, NUMBER, EMPTY, KIND, TAKEN, FULL, BUSY, NONE, IDLE, LINE, TOTAL}
use Rattle.rules.specs.Batch.{Batch, WhyBatch, lists_fit, ends, some_ends, batch_conditions, batch_refusal, refusal_of}
use Rattle.rules.specs.Batch.WhyBatch.{unsized, unequal, long, unsound, done_ends, refused_ends, freed_ends, queued_ends}
use Rattle.laws.specs.Lists.Tests.{split, clash, fails, refuted, and_join, and_left, and_right, and_no, or_false}
use Rattle.laws.specs.Sound.Reflect.{fits_sized, sized_fits, sound_of, of_sound}
use Rattle.laws.specs.Sound.Facts.{tests_ready}
use Rattle.laws.specs.Calls.Admission.{admission, admission_size, admission_damaged, admission_sound, admitted}
use Rattle.laws.specs.Calls.Conditions.{lowest_open, Verdict, judged, Given, lowest_given}

-- ---- the lists

pub lists_fit_of : (n m : ℕ) → lists_fit n m ≡ true → (n ≡ m) × (n ≤ 4096)
unfolding lists_fit
lists_fit_of n m t = (eqb-true n m (and_left (eqb n m) (leb n 4096) t), leb-true n 4096 (and_right (eqb n m) (leb n 4096) t))

pub of_lists_fit : (n m : ℕ) → n ≡ m → n ≤ 4096 → lists_fit n m ≡ true
unfolding lists_fit
of_lists_fit n m e l = and_join (eq-eqb n m e) (le-leb n 4096 l)

pub not_lists_fit : (n m : ℕ) → ((n ≡ m) × (n ≤ 4096) → ⊥) → lists_fit n m ≡ false
not_lists_fit n m f = fails (lists_fit n m) (λ t. f (lists_fit_of n m t))

-- ---- the totals

-- each total can take 1,024 for each of n calls
abbrev pub HasRoom : ℕ → Totals → Type 0
HasRoom n t =
    (t.done + 1024 * n < 2 ^ 64) × (t.refused + 1024 * n < 2 ^ 64) × (t.freed + 1024 * n < 2 ^ 64) × (t.queued + 1024 * n < 2 ^ 64)

room_of : (n : ℕ) (t : Totals) → some_ends n t ≡ false → HasRoom n t
unfolding some_ends ends
room_of n t f =
    let three = or_false (ends n t.done || ends n t.refused || ends n t.freed) (ends n t.queued) f in
    let two = or_false (ends n t.done || ends n t.refused) (ends n t.freed) three.0 in
    let one = or_false (ends n t.done) (ends n t.refused) two.0 in
    (leb-false _ _ one.0, leb-false _ _ one.1, leb-false _ _ two.1, leb-false _ _ three.1)

pub of_room : (n : ℕ) (t : Totals) → HasRoom n t → some_ends n t ≡ false
unfolding some_ends ends
of_room n t r = rw (lt-leb _ _ r.0, lt-leb _ _ r.1, lt-leb _ _ r.2, lt-leb _ _ r.3) refl

pub no_room : (n : ℕ) (t : Totals) → (HasRoom n t → ⊥) → some_ends n t ≡ true
no_room n t f = ⊎_elim (λ e. e) (λ e. absurd (f (room_of n t e))) (split (some_ends n t))

-- ---- the test, as the code goes through it: the lists, then what every call asks first, then the totals

module _ (h : Heap) (n m : ℕ) (t : Totals) where
  pub lists_refused : {r : ℕ} → lists_fit n m ≡ false → r ≡ 1 → r ≡ batch_refusal h n m t
  unfolding batch_refusal batch_conditions lowest number
  lists_refused e one = rw (and_no (fits h) e) one

  -- by the number that `admission` gives
  pub tables_refused : {r : ℕ} → lists_fit n m ≡ true → r ≡ admission h → r ≢ 0 → r ≡ batch_refusal h n m t
  tables_refused e a some = a ∙ go (split (fits h)) (split (sound h))
    where
      go : (fits h ≡ true) ⊎ (fits h ≡ false) → (sound h ≡ true) ⊎ (sound h ≡ false) → admission h ≡ batch_refusal h n m t
      go (inr f) s = unfold batch_refusal batch_conditions lowest number in rw f (admission_size h f)
      go (inl f) (inr s) = unfold batch_refusal batch_conditions lowest number in rw (f, e, s) (admission_damaged h f s)
      go (inl f) (inl s) = absurd (some (a ∙ admission_sound h f s))

  pub totals_refused : {r : ℕ} → lists_fit n m ≡ true → admission h ≡ 0 → some_ends n t ≡ true → r ≡ 12 → r ≡ batch_refusal h n m t
  unfolding batch_refusal batch_conditions lowest number
  totals_refused e a s twelve = let d = admitted h a in rw (d.0, e, d.1, s) twelve

  pub none_refused : {r : ℕ} → lists_fit n m ≡ true → admission h ≡ 0 → some_ends n t ≡ false → r ≡ 0 → r ≡ batch_refusal h n m t
  unfolding batch_refusal batch_conditions lowest
  none_refused e a s none = let d = admitted h a in rw (d.0, e, d.1, s) none

  -- what a batch has that is not refused
  pub batch_fine : batch_refusal h n m t ≡ 0 → Ready h × (n ≡ m) × (n ≤ 4096) × HasRoom n t
  unfolding batch_refusal batch_conditions
  batch_fine e =
      let o = lowest_open _ e in
      let both = not-false _ o.0 in
      let lists = lists_fit_of n m (and_right (fits h) (lists_fit n m) both) in
      (tests_ready (and_left (fits h) (lists_fit n m) both) (not-false _ o.1.0), lists.0, lists.1, room_of n t o.1.1.0)

-- ---- the table

module _ (h : Heap) (b : Batch) where
  abbrev calls : ℕ
  calls = length b.records

  abbrev places : ℕ
  places = length b.answers

  -- lists that don't fit are unequal or long
  lists_why : lists_fit calls places ≡ false → WhyBatch SIZE h b
  lists_why f =
      by_cases (ℕ_discrete calls places)
      (λ e. by_cases (dec_lt 4096 calls) long (λ l. clash (of_lists_fit calls places e (omega arith)) f))
      unequal

  -- one of four totals ends
  totals_why : some_ends calls b.totals ≡ true → WhyBatch TOTAL h b
  totals_why e =
      by_cases (dec_lt (b.totals.done + 1024 * calls) (2 ^ 64))
      (λ w. by_cases (dec_lt (b.totals.refused + 1024 * calls) (2 ^ 64))
      (λ x. by_cases (dec_lt (b.totals.freed + 1024 * calls) (2 ^ 64))
      (λ y. by_cases (dec_lt (b.totals.queued + 1024 * calls) (2 ^ 64))
      (λ z. clash e (of_room calls b.totals (w, x, y, z)))
      (λ z. queued_ends (omega arith)))
      (λ y. freed_ends (omega arith)))
      (λ x. refused_ends (omega arith)))
      (λ w. done_ends (omega arith))

  -- a refusal's number is one that the table gives
  pub batch_judge : Verdict (λ k. WhyBatch k h b) (refusal_of h b)
  unfolding batch_refusal batch_conditions
  batch_judge =
      judged (λ k. WhyBatch k h b) _ (
        λ t. ⊎_elim
            (λ f. lists_why (fails (lists_fit calls places) (λ l. clash (and_join f l) (not-true _ t))))
            (λ f. unsized (λ z. clash (sized_fits h z) f))
            (split (fits h)),
        λ a. (
          λ t. let z = fits_sized h (and_left (fits h) (lists_fit calls places) (not-false _ a)) in
              unsound (λ s. clash (of_sound h z s) (not-true _ t)),
          λ c. (totals_why, λ d. tt),
        ),
      )

  -- the conditions, of which a line of the table finds one
  abbrev Found : ℕ → Type 0
  Found k = Given k (batch_conditions h calls places b.totals)

  misfit_found : (fits h ≡ true → lists_fit calls places ≡ true → ⊥) → Found 1
  unfolding batch_conditions number
  misfit_found f =
      (omega arith, inl (refuted _ (λ t. f (and_left (fits h) (lists_fit calls places) t) (and_right (fits h) (lists_fit calls places) t))))

  ends_found : (HasRoom calls b.totals → ⊥) → Found 12
  unfolding batch_conditions number
  ends_found f = (omega arith, inr (omega arith, inr (omega arith, inl (no_room calls b.totals f))))

  table_found : (k : Reason) → WhyBatch k h b → Found (number k)
  unfolding batch_conditions number
  table_found SIZE (unsized z) = misfit_found (λ f l. z (fits_sized h f))
  table_found SIZE (unequal d) = misfit_found (λ f l. d (lists_fit_of calls places l).0)
  table_found SIZE (long d) = misfit_found (λ f l. omega (arith, (lists_fit_of calls places l).1))
  table_found DAMAGED (unsound s) =
      ⊎_elim
      (λ t. let z = fits_sized h (and_left (fits h) (lists_fit calls places) t) in
      (omega arith, inr (omega arith, inl (refuted (sound h) (λ p. s (sound_of h z p))))))
      (λ f. (omega arith, inl (ap not f)))
      (split (fits h && lists_fit calls places))
  table_found TOTAL (done_ends l) = ends_found (λ r. omega (arith, r.0))
  table_found TOTAL (refused_ends l) = ends_found (λ r. omega (arith, r.1))
  table_found TOTAL (freed_ends l) = ends_found (λ r. omega (arith, r.2))
  table_found TOTAL (queued_ends l) = ends_found (λ r. omega (arith, r.3))
  table_found NUMBER never = elim never [ ]
  table_found EMPTY never = elim never [ ]
  table_found KIND never = elim never [ ]
  table_found TAKEN never = elim never [ ]
  table_found FULL never = elim never [ ]
  table_found BUSY never = elim never [ ]
  table_found NONE never = elim never [ ]
  table_found IDLE never = elim never [ ]
  table_found LINE never = elim never [ ]

  -- where the table gives a number, the batch is refused, by that or a lower one
  pub batch_bound : (k : Reason) → WhyBatch k h b → (1 ≤ refusal_of h b) × (refusal_of h b ≤ number k)
  unfolding batch_refusal
  batch_bound k w = lowest_given (number k) _ (table_found k w)
