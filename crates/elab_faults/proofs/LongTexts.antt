-- Strings that are too long, one by one.
use Rattle.std.proofs.Common.{◌≡◌, refl, ap, sym, ◌∙◌, ℕ, ◌+◌, ◌<◌, Bool, true, false, List, [], ◌∷◌, ◌++◌, map, length, get_or, take}
use Rattle.std.specs.Prelude.{◌||◌}
use Rattle.std.proofs.lemmas.Grind.{common_steps}
use Rattle.std.proofs.lemmas.List.{take_more, map-append}
use Rattle.elab_plain.specs.vl_flat.specs.Surface as x
use Rattle.elab_plain.specs.vl_flat.specs.ExpressionFaults.{holds_long, some_hold_long, selects_hold_long, args_hold_long}
use Rattle.elab_plain.specs.declared.surface.Ex.{Ex}
use Rattle.elab_plain.specs.declared.surface.Select.{Select}
use Rattle.elab_plain.specs.declared.surface.Select as s
use Rattle.elab_plain.specs.declared.surface.Argument.{Argument}
use Rattle.elab_plain.specs.declared.surface.Argument.TheVariants as a
use Rattle.elab_plain.specs.Seen.{seen, selects_before, args_before}
use Rattle.elab_plain.specs.Listed.{of_list}
use Rattle.elab_plain.proofs.Walks.{joined-seen, called-seen, named-seen, system-seen}
use Rattle.vl_base.proofs.Booleans.{or_false_right as or-none, or_assoc_back as or-more}
pub use Rattle.vl_base.proofs.Booleans.{or_false_right as or-last}

exs-append : (xs : List x.Ex) (y : x.Ex) → some_hold_long (of_list (xs ++ y ∷ [])) ≡ (some_hold_long (of_list xs) || holds_long y)
exs-append [] y = or-none (holds_long y)
exs-append (z ∷ zs) y = ap (λ b. holds_long z || b) (exs-append zs y) ∙ or-more (holds_long z) (some_hold_long (of_list zs)) (holds_long y)

pub exs-more : (es : List Ex) (i : ℕ) (y : Ex) → i < length es → y ≡ get_or es i y → some_hold_long (of_list (map seen (take (i + 1) es))) ≡ (some_hold_long (of_list (map seen (take i es))) || holds_long (seen y))
exs-more es i y h is =
    ap (λ z. some_hold_long (of_list (map seen z))) (take_more es i y h)
    ∙ (ap (λ z. some_hold_long (of_list z)) (map-append seen (take i es) (get_or es i y ∷ []))
    ∙ (exs-append (map seen (take i es)) (seen (get_or es i y))
    ∙ ap (λ z. some_hold_long (of_list (map seen (take i es))) || holds_long (seen z)) (sym is)))

-- the first of some selects, and the others
first-select : (z : Select) (o : x.Selects) → selects_hold_long (selects_before (z ∷ []) o) ≡ (selects_hold_long (selects_before (z ∷ []) x.NoSelects) || selects_hold_long o)
first-select (s.Index q i) o = ap (λ b. b || selects_hold_long o) (sym (or-none (holds_long (seen i))))
first-select (s.Range q m l r) o =
    or-more (holds_long (seen l)) (holds_long (seen r)) (selects_hold_long o)
    ∙ ap (λ b. b || selects_hold_long o) (ap (λ b. holds_long (seen l) || b) (sym (or-none (holds_long (seen r)))))

selects-append : (xs : List Select) (y : Select) → selects_hold_long (selects_before (xs ++ y ∷ []) x.NoSelects) ≡ (selects_hold_long (selects_before xs x.NoSelects) || selects_hold_long (selects_before (y ∷ []) x.NoSelects))
selects-append [] y = refl
selects-append (z ∷ zs) y =
    first-select z (selects_before (zs ++ y ∷ []) x.NoSelects)
    ∙ (ap (λ b. selects_hold_long (selects_before (z ∷ []) x.NoSelects) || b) (selects-append zs y)
    ∙ (or-more (selects_hold_long (selects_before (z ∷ []) x.NoSelects)) (selects_hold_long (selects_before zs x.NoSelects)) (selects_hold_long (selects_before (y ∷ []) x.NoSelects))
    ∙ ap (λ b. b || selects_hold_long (selects_before (y ∷ []) x.NoSelects)) (sym (first-select z (selects_before zs x.NoSelects)))))

pub selects-more : (xs : List Select) (i : ℕ) (y : Select) → i < length xs → y ≡ get_or xs i y → selects_hold_long (selects_before (take (i + 1) xs) x.NoSelects) ≡ (selects_hold_long (selects_before (take i xs) x.NoSelects) || selects_hold_long (selects_before (y ∷ []) x.NoSelects))
selects-more xs i y h is =
    ap (λ z. selects_hold_long (selects_before z x.NoSelects)) (take_more xs i y h)
    ∙ (selects-append (take i xs) (get_or xs i y)
    ∙ ap (λ z. selects_hold_long (selects_before (take i xs) x.NoSelects) || selects_hold_long (selects_before (z ∷ []) x.NoSelects)) (sym is))

first-argument : (z : Argument) (o : x.Args) → args_hold_long (args_before (z ∷ []) o) ≡ (args_hold_long (args_before (z ∷ []) x.NoArgs) || args_hold_long o)
first-argument a.Null o = refl
first-argument (a.Value e) o = ap (λ b. b || args_hold_long o) (sym (or-none (holds_long (seen e))))

args-append : (xs : List Argument) (y : Argument) → args_hold_long (args_before (xs ++ y ∷ []) x.NoArgs) ≡ (args_hold_long (args_before xs x.NoArgs) || args_hold_long (args_before (y ∷ []) x.NoArgs))
args-append [] y = refl
args-append (z ∷ zs) y =
    first-argument z (args_before (zs ++ y ∷ []) x.NoArgs)
    ∙ (ap (λ b. args_hold_long (args_before (z ∷ []) x.NoArgs) || b) (args-append zs y)
    ∙ (or-more (args_hold_long (args_before (z ∷ []) x.NoArgs)) (args_hold_long (args_before zs x.NoArgs)) (args_hold_long (args_before (y ∷ []) x.NoArgs))
    ∙ ap (λ b. b || args_hold_long (args_before (y ∷ []) x.NoArgs)) (sym (first-argument z (args_before zs x.NoArgs)))))

pub args-more : (xs : List Argument) (i : ℕ) (y : Argument) → i < length xs → y ≡ get_or xs i y → args_hold_long (args_before (take (i + 1) xs) x.NoArgs) ≡ (args_hold_long (args_before (take i xs) x.NoArgs) || args_hold_long (args_before (y ∷ []) x.NoArgs))
args-more xs i y h is =
    ap (λ z. args_hold_long (args_before z x.NoArgs)) (take_more xs i y h)
    ∙ (args-append (take i xs) (get_or xs i y)
    ∙ ap (λ z. args_hold_long (args_before (take i xs) x.NoArgs) || args_hold_long (args_before (z ∷ []) x.NoArgs)) (sym is))

pub or-right : (r b c : Bool) → r ≡ b → r ≡ false → c ≡ (b || c)
or-right r b c e h = ap (λ z. z || c) (sym h ∙ e)

pub ruleset longs = (common_steps, or-last, exs-more, selects-more, args-more, joined-seen, called-seen, named-seen, system-seen)
