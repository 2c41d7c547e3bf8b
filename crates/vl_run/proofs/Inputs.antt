-- Functions and their inputs.
use Rattle.std.proofs.Common.{◌≡◌, ◌<◌, ◌≤◌, ℕ, List, length, map, ap, sym, ◌∙◌, get_or, subst}
use Rattle.std.specs.Prelude.{slice_get, All, Some, None, option_map}
use Rattle.std.proofs.lemmas.Option.{slice_get-map, slice_get-get_or, slice_get_within, slice_get_past, get_or_from_slice_get}
use Rattle.vl_design.specs.declared.design.Func.{Func}
use Rattle.vl_design.specs.Syntax.{Fun}
use Rattle.vl_design.specs.Trees.{fun_of}
use Rattle.vl_design.specs.Width.{Names, names_in, rows_in, signal_form, input_widths_of}
use Rattle.vl_design.specs.Sound.{IsSoundFun, IsNamed, IsSignal}
use Rattle.vl_eval.proofs.Names.{signal-named}

-- what holds of each item holds of the one at a place
pub all-at : {X : Type 0} (P : X → Type 0) (xs : List X) (i : ℕ) (x : X) → All P xs → slice_get xs i ≡ Some x → P x
all-at P xs i x h e = subst P (get_or_from_slice_get xs i x x e) (h i x (slice_get_within xs i x e))

pub input-named : (names : Names) (f : Fun) (i k : ℕ) → IsSoundFun names f → i < length f.inputs → k ≡ get_or f.inputs i k → IsNamed (names_in names f) k
input-named names f i k h l e = signal-named (names_in names f) k (subst (IsSignal (names_in names f)) (sym e) (h.inputs i k l))

pub input-is : (names : Names) (f : Fun) (i k : ℕ) → i < length f.inputs → k ≡ get_or f.inputs i k → slice_get (input_widths_of names (Some f)) i ≡ Some (signal_form (rows_in names f) k).width
input-is names f i k l e =
    slice_get-map (λ k. (signal_form (rows_in names f) k).width) f.inputs i
    ∙ ap (option_map (λ k. (signal_form (rows_in names f) k).width)) (slice_get-get_or f.inputs i k l ∙ ap Some (sym e))

pub input-past : (names : Names) (f : Fun) (i : ℕ) → length f.inputs ≤ i → slice_get (input_widths_of names (Some f)) i ≡ None
input-past names f i l =
    slice_get-map (λ k. (signal_form (rows_in names f) k).width) f.inputs i
    ∙ ap (option_map (λ k. (signal_form (rows_in names f) k).width)) (slice_get_past f.inputs i l)

-- the function of a number
pub function-at : (fs : List Func) (i : ℕ) (f : Func) → i < length fs → f ≡ get_or fs i f → slice_get (map fun_of fs) i ≡ Some (fun_of f)
function-at fs i f h e = slice_get-map fun_of fs i ∙ ap (option_map fun_of) (slice_get-get_or fs i f h ∙ ap Some (sym e))

pub function-sound : (names : Names) (fs : List Func) (i : ℕ) (d : Func) → All (IsSoundFun names) (map fun_of fs) → i < length fs → IsSoundFun names (fun_of (get_or fs i d))
function-sound names fs i d s h = all-at (IsSoundFun names) (map fun_of fs) i (fun_of (get_or fs i d)) s (slice_get-map fun_of fs i ∙ ap (option_map fun_of) (slice_get-get_or fs i d h))

pub ruleset functions = (function-at)

pub ruleset inputs = (input-named, input-is, input-past)
