-- Laws of a session: lines after lines. Assumes nothing.
use mathlib.Core.Path.{◌≡◌, refl, sym, ◌∙◌, ap}
use mathlib.Core.List.{List, [], ◌∷◌, ◌++◌, append_assoc}
use Rattle.csv_text.specs.Lines.{Record}
use Rattle.rules.specs.Heap.{Heap}
use Rattle.rules.specs.Asked.{obey_all}
use Rattle.session.specs.Session.{line_for, after_line, session, after_all}

pub session_append : (h : Heap) (l m : List Record) → session h (l ++ m) ≡ session h l ++ session (after_all h l) m
unfolding session obey_all
session_append h [] m = refl
session_append h (r ∷ l) m =
    ap (λ x. line_for h r ++ x) (session_append (after_line h r) l m)
    ∙ sym (append_assoc (line_for h r) (session (after_line h r) l) (session (after_all (after_line h r) l) m))

pub after-append : (h : Heap) (l m : List Record) → after_all h (l ++ m) ≡ after_all (after_all h l) m
unfolding obey_all
after-append h [] m = refl
after-append h (r ∷ l) m = after-append (after_line h r) l m
