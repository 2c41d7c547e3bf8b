-- The limits of signals one by one.
use Rattle.std.proofs.Common.{◌≡◌, refl, ap, sym, ◌∙◌, ℕ, ◌+◌, ◌<◌, ◌++◌, List, [], ◌∷◌, length, get_or, take, fold}
use Rattle.std.specs.Prelude.{Option}
use Rattle.std.proofs.lemmas.Grind.{common_steps, fold-append}
use Rattle.std.proofs.lemmas.List.{take_more, append_assoc}
use Rattle.vl_design.specs.declared.design.Signal.{Signal}
use Rattle.vl_design.specs.declared.stop.Stop.{Stop}
use Rattle.elab_plain.specs.vl_flat.specs.Outcome as o
use Rattle.vl_design.specs.Stops.{earliest}
use Rattle.vl_design.proofs.Earliest.{earliest-append}

limits-append : (n : o.Totals) (xs : List Signal) (r : Signal) → o.signals_limits n (xs ++ r ∷ []) ≡ o.signals_limits n xs ++ o.signal_limits (o.with_signal (fold o.with_signal n xs) r) r
limits-append n [] r = append-nothing (o.signal_limits (o.with_signal n r) r)
  where
    append-nothing : {A : Type 0} (xs : List A) → xs ++ [] ≡ xs
    append-nothing [] = refl
    append-nothing (x ∷ xs) = ap (λ z. x ∷ z) (append-nothing xs)
limits-append n (x ∷ xs) r =
    ap (λ z. o.signal_limits (o.with_signal n x) x ++ z) (limits-append (o.with_signal n x) xs r)
    ∙ sym (append_assoc (o.signal_limits (o.with_signal n x) x) (o.signals_limits (o.with_signal n x) xs) (o.signal_limits (o.with_signal (fold o.with_signal n (x ∷ xs)) r) r))

pub limits-more : (best : Option Stop) (n : o.Totals) (rs : List Signal) (i : ℕ) (r : Signal) → i < length rs → r ≡ get_or rs i r
    → earliest best (o.signals_limits n (take (i + 1) rs)) ≡ earliest (earliest best (o.signals_limits n (take i rs))) (o.signal_limits (o.with_signal (fold o.with_signal n (take i rs)) r) r)
limits-more best n rs i r h is =
    ap (λ z. earliest best (o.signals_limits n z)) (take_more rs i r h)
    ∙ (ap (λ z. earliest best (o.signals_limits n (take i rs ++ z ∷ []))) (sym is)
    ∙ (ap (earliest best) (limits-append n (take i rs) r)
    ∙ earliest-append best (o.signals_limits n (take i rs)) (o.signal_limits (o.with_signal (fold o.with_signal n (take i rs)) r) r)))

pub totals-more : (n : o.Totals) (rs : List Signal) (i : ℕ) (r : Signal) → i < length rs → r ≡ get_or rs i r
    → fold o.with_signal n (take (i + 1) rs) ≡ o.with_signal (fold o.with_signal n (take i rs)) r
totals-more n rs i r h is =
    ap (fold o.with_signal n) (take_more rs i r h)
    ∙ (ap (λ z. fold o.with_signal n (take i rs ++ z ∷ [])) (sym is)
    ∙ fold-append o.with_signal n (take i rs) (r ∷ []))

pub ruleset counting = (common_steps, limits-more, totals-more)
