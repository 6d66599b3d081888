-- Two take-offs in the code, one after the other, are the rules' two: the second goes on from the work of the first, and its list behind the first's.
-- Assumes nothing.
use Prim.Native.Nat.{ℕ, ◌+◌, ◌-◌, ◌≤◌, ◌<◌}
use native.Mathlib.Omega.{arith}
use mathlib.Core.List.{List, [], ◌∷◌}
use mathlib.Core.Path.{◌≡◌, refl, sym, ap, ◌∙◌, subst}
use lib.ListN.{length, take}
use Rattle.rules.specs.Heap.{Heap, cells, queued}
use Rattle.rules.specs.Release.{Work, start, release}
use Rattle.rules.specs.Calls.{answers}
use Rattle.laws.specs.Sound.But.{Fit, SoundBut}
use Rattle.laws.specs.Release.Balance.{Draining}
use Rattle.laws.specs.Release.Serve.{Drained, release_drained}
use Rattle.laws.specs.Release.Taken.{sound_settled}
use Rattle.release.specs.Release.{Releasable, WorkListed, WorkCounted, WorkDone}
use Rattle.release.specs.Write.{WorkFinished}
use Rattle.release.proofs.Released.{size_left, control_left, all_few, with_list, without_list}
use Rattle.release.proofs.Whole.{begun_draining, WorkDoneFrom, whole}
use Rattle.finalizers.specs.Finish.{BothReleasable}

-- a heap that is sound but for two references
pub both_releasable : (h : Heap) (a b : ℕ) → SoundBut h (a ∷ b ∷ []) → BothReleasable h a b
unfolding start
both_releasable h a b s = record { outside = h.roots; draining = (sound_settled (start h) (a ∷ b ∷ []) refl s).draining }

module _ {h : Heap} {a b : ℕ} (p : BothReleasable h a b) where
  pub both_fit : Fit h.kind h.flags h.count h.queue h.control
  unfolding start
  both_fit = p.draining.balanced.fit

  pub first_ready : Releasable h 0 a
  first_ready = record { outside = b ∷ p.outside; done = []; place = refl; draining = p.draining }

  -- the second take-off comes behind the first, which has freed d cells
  pub second_ready : {h₁ : Heap} {d : ℕ} → h₁ ≡ (release (start h) a).heap → d ≡ length (release (start h) a).freed → Releasable h₁ d b
  unfolding start
  second_ready is many =
      let v : Work = release (start h) a in
      let g : Drained (start h) v [] (b ∷ p.outside) = release_drained (start h) a [] (b ∷ p.outside) p.draining in
      record {
        outside = p.outside;
        done = g.cells;
        place = omega (arith, ap length g.advance.freed);
        draining = subst (λ (x : Heap). Draining (start x) g.cells (b ∷ p.outside)) (sym is) (begun_draining v g.cells (b ∷ p.outside) g.empty g.draining);
      }

  -- each take-off leaves as many cells, and the queue's length and the running root
  module _ {h₁ : Heap} {d : ℕ} (is : h₁ ≡ (release (start h) a).heap) (many : d ≡ length (release (start h) a).freed) where
    pub size₁ : cells h₁ ≡ cells h
    size₁ = ap (λ (x : Heap). cells x) is ∙ size_left first_ready

    module _ {h₂ : Heap} (two : h₂ ≡ (release (start h₁) b).heap) where
      size₂ : cells h₂ ≡ cells h₁
      size₂ = ap (λ (x : Heap). cells x) two ∙ size_left (second_ready is many)

      pub control₂ : length h₂.control ≡ 2
      control₂ = ap (λ (x : Heap). length x.control) two ∙ control_left (second_ready is many)

  -- what both leave: the first the tables h₁ and the list l₁ with d cells freed, the second h₂ and l₂ with e
  pub record Works (l : List ℕ) (h₁ : Heap) (l₁ : List ℕ) (d : ℕ) (h₂ : Heap) (l₂ : List ℕ) (e : ℕ) : Type 0 where
    pub first : WorkDone (release (start h) a) h₁ l 0 l₁ d
    pub second : WorkDone (release (start h₁) b) h₂ l₁ d l₂ e
    pub size₁ : cells h₁ ≡ cells h
    pub size₂ : cells h₂ ≡ cells h₁
    pub list₁ : length l₁ ≡ length l

  -- with a list
  pub listed_first : {l l₁ : List ℕ} {h₁ : Heap} {d : ℕ} → cells h ≤ length l → length l₁ ≡ length l → WorkListed (release (start h) a) h₁ l 0 l₁ d
      → WorkDone (release (start h) a) h₁ l 0 l₁ d
  listed_first room kept one = with_list (omega arith) (omega (arith, ap (λ (x : Heap). cells x) one.heap, size_left first_ready)) one

  pub listed_works : {l l₁ l₂ : List ℕ} {h₁ h₂ : Heap} {d e : ℕ} → cells h ≤ length l → WorkListed (release (start h) a) h₁ l 0 l₁ d
      → WorkListed (release (start h₁) b) h₂ l₁ d l₂ e → length l₁ ≡ length l → length l₂ ≡ length l₁ → Works l h₁ l₁ d h₂ l₂ e
  listed_works {d = d} room one two kept₁ kept₂ =
      let first = listed_first room kept₁ one in
      let many : d ≡ length (release (start h) a).freed = omega (arith, first.many) in
      record {
        first = first;
        second = with_list (omega (arith, one.few, size₁ one.heap many)) (omega (arith, size₁ one.heap many, size₂ one.heap many two.heap)) two;
        size₁ = size₁ one.heap many;
        size₂ = size₂ one.heap many two.heap;
        list₁ = kept₁;
      }

  -- without one
  pub unlisted_works : (l : List ℕ) {h₁ h₂ : Heap} {d more : ℕ} → length l < cells h → WorkCounted (release (start h) a) h₁ d
      → WorkCounted (release (start h₁) b) h₂ more → Works l h₁ l (0 + d) h₂ l (0 + d + more)
  unlisted_works l none one two =
      let few = all_few first_ready in
      let more-few = all_few (second_ready one.heap one.freed) in
      let s₁ = size₁ one.heap one.freed in
      let s₂ = size₂ one.heap one.freed two.heap in
      record {
        first = without_list one (omega (arith, few, one.freed)) (omega arith);
        second = without_list two (omega (arith, more-few, two.freed)) (omega arith);
        size₁ = s₁;
        size₂ = s₂;
        list₁ = refl;
      }

  module _ {l : List ℕ} {h₁ : Heap} {l₁ : List ℕ} {d : ℕ} {h₂ : Heap} {l₂ : List ℕ} {e : ℕ} (w : Works l h₁ l₁ d h₂ l₂ e) where
    pub end_small : e ≤ 1024
    end_small = omega (arith, w.second.few, w.size₁, w.size₂, both_fit.small)

    abbrev middle : Work
    middle = release (start h) a

    one : WorkDoneFrom (start h) middle h₁ l 0 l₁ d
    unfolding start
    one = whole (start h) first_ready refl w.first

    two : WorkDoneFrom middle (release middle b) h₂ l₁ d l₂ e
    two =
        whole middle (second_ready refl (omega (arith, w.first.many))) one.empty
        (subst (λ (x : Heap). WorkDone (release (start x) b) h₂ l₁ d l₂ e) w.first.heap w.second)

    -- the queue grows by what both queued
    grown : queued h₂ ≡ queued h + length (release middle b).queued
    unfolding start
    grown = omega (arith, one.grown, two.grown, ap (λ (u : Heap). queued u) one.heap)

    pub queue_grows : queued h ≤ queued h₂
    queue_grows = omega (arith, grown)

    pub took_both : (refused freed queued₁ cell : ℕ) → refused ≡ 0 → freed ≡ e → queued₁ ≡ queued h₂ - queued h → cell ≡ 0
        → WorkFinished (cells h) (release middle b) h₂ l l₂ (answers refused freed queued₁ cell)
    unfolding start
    took_both refused freed queued₁ cell done is grew none =
        let v : Work = release middle b in
        let all : e ≡ length v.freed = two.many (one.many refl) in
        let of-queued : queued₁ ≡ length v.queued = omega (arith, grown) in
        record {
          heap = two.heap;
          listed = λ room. ap (λ (i : ℕ). take i l₂) (sym all)
              ∙ two.listed (omega (arith, room, w.size₁, w.size₂, w.list₁)) (one.listed (omega (arith, room, w.size₁)) refl);
          answered = λ i. answers (done i) ((is ∙ all) i) (of-queued i) (none i);
        }
