-- What the numbers of an expression name.
use Rattle.std.proofs.Common.{◌≡◌, ℕ, zero, suc, List, [], ◌∷◌, ◌++◌, map, refl, sym, ap, ◌∙◌, arith, Option, Some, None}
use Rattle.std.specs.Prelude.{slice_get, All}
use Rattle.std.proofs.lemmas.Option.{slice_get_within, get_or_from_slice_get}
use Rattle.vl_design.specs.declared.design.Func.{Func}
use Rattle.vl_design.specs.declared.design.Design.{Design}
use Rattle.vl_design.specs.Syntax.{Fun, Flat, Row}
use Rattle.vl_design.specs.Width.{Names, names_in, names_of, rows_in, row_form, signal_form, input_widths_of}
use Rattle.vl_design.specs.Sound.{IsSound, IsSignal, IsOf, HasValue, IsWidth}
use Rattle.vl_design.specs.declared.design.Signal.{Signal}
use Rattle.vl_design.specs.Trees.{row_of, fun_of, flat_of}
use Rattle.vl_design.proofs.TreeLemmas.{funs-map}
use Rattle.vl_width.specs.Room.{HaveInputs}
use Rattle.vl_design.specs.vl_base.proofs.Lists.{append_nil as no-more}

-- the names of a room of these
abbrev names_with : List Signal → List Signal → List Func → Names
names_with signals locals functions = record {
  rows = map row_of signals ++ map row_of locals;
  signals = map row_of signals;
  funs = map fun_of functions;
}

signal-wide : (o : Option Row) → IsOf HasValue o → IsWidth (row_form o).width
signal-wide None h = absurd h
signal-wide (Some r) h = h.1

inputs-wide : (names : Names) (f : Fun) (ks : List ℕ) → All (IsSignal (names_in names f)) ks → All IsWidth (map (λ k. (signal_form (rows_in names f) k).width) ks)
inputs-wide names f [] h i d l = absurd (omega arith)
inputs-wide names f (k ∷ ks) h zero d l = signal-wide (slice_get (rows_in names f) k) (h zero zero (omega arith))
inputs-wide names f (k ∷ ks) h (suc i) d l = inputs-wide names f ks (λ j e m. h (suc j) e (omega arith)) i d (omega arith)

-- the inputs of a sound design's functions have 1 to 128 bits
pub have-inputs : (d : Flat) → IsSound d → HaveInputs (names_of d)
have-inputs d s f = at (slice_get d.funs f) refl
  where
    at : (o : Option Fun) → slice_get d.funs f ≡ o → All IsWidth (input_widths_of (names_of d) o)
    at None e = λ i w l. absurd (omega arith)
    at (Some g) e =
        let there = s.funs f g (slice_get_within d.funs f g e) in
        let g' = get_or_from_slice_get d.funs f g g e in
        inputs-wide (names_of d) g g.inputs (rw g' at there).inputs

-- the names of a design
pub names-design : (d : Design) (signals locals : List Signal) (functions : List Func) → signals ≡ d.signals → locals ≡ [] → functions ≡ d.funcs
    → names_with signals locals functions ≡ names_of (flat_of d)
names-design d signals locals functions e f g =
    let there : map row_of signals ++ map row_of locals ≡ map row_of d.signals = ap (λ xs. map row_of xs ++ map row_of locals) e ∙ (ap (λ xs. map row_of d.signals ++ map row_of xs) f ∙ no-more (map row_of d.signals)) in
    ap (λ (xs : List Row). record { rows = xs; signals = map row_of signals; funs = map fun_of functions }) there
    ∙ (ap (λ xs. record { rows = map row_of d.signals; signals = map row_of xs; funs = map fun_of functions }) e
    ∙ ap (λ xs. record { rows = map row_of d.signals; signals = map row_of d.signals; funs = xs }) (ap (map fun_of) g ∙ sym (funs-map d.funcs)))

-- those of a function's body
pub names-function : (d : Design) (f : Func) (signals locals : List Signal) (functions : List Func) → signals ≡ d.signals → locals ≡ f.locals → functions ≡ d.funcs
    → names_with signals locals functions ≡ names_in (names_of (flat_of d)) (fun_of f)
names-function d f signals locals functions e h g =
    ap (λ xs. record { rows = map row_of xs ++ map row_of locals; signals = map row_of xs; funs = map fun_of functions }) e
    ∙ (ap (λ xs. record { rows = map row_of d.signals ++ map row_of xs; signals = map row_of d.signals; funs = map fun_of functions }) h
    ∙ ap (λ xs. record { rows = map row_of d.signals ++ map row_of f.locals; signals = map row_of d.signals; funs = xs }) (ap (map fun_of) g ∙ sym (funs-map d.funcs)))
