-- The scope of a design's processes.
use Rattle.std.proofs.Common.{◌≡◌, ℕ, zero, suc, List, [], ◌∷◌, ◌++◌, append-nil, map, refl, sym, ap, ◌∙◌, length, subst}
use Rattle.std.specs.Prelude.{Some, slice_get, IfOk, Result}
use Rattle.std.specs.declared.alloc.AllocError.{AllocError}
use Rattle.std.specs.declared.alloc.Global.{Global}
use Rattle.std.specs.declared.vec.Vec.{Vec}
use Rattle.std.proofs.Math.Path.{fun_ext}
use Rattle.std.proofs.lemmas.List.{map-append}
use Rattle.vl_base.specs.declared.files.File.{File}
use Rattle.vl_design.specs.declared.design.Design.{Design}
use Rattle.vl_design.specs.declared.design.Func.{Func}
use Rattle.vl_design.specs.declared.design.Signal.{Signal}
use Rattle.vl_design.specs.Functions.{scope_with, scope_of, calls_within, result_of}
use Rattle.vl_design.specs.Sound.{IsSound}
use Rattle.vl_design.specs.Syntax.{Fun, Flat, Row}
use Rattle.vl_design.specs.Trees.{row_of, fun_of, flat_of}
use Rattle.vl_design.specs.Width.{Names, names_of, input_widths}
use Rattle.vl_design.proofs.TreeLemmas.{funs-map}
use Rattle.vl_eval.specs.Rooms as rooms
use Rattle.vl_eval.specs.Rooms.{GivesFitting}
use Rattle.vl_run.specs.Scopes.{calls_in, Calls}
use Rattle.vl_run.proofs.Fresh.{HasOneWord, one-word, AreOfOneWord, calls-fit}

-- the names of a room of these
abbrev names_with : List Signal → List Signal → List Func → Names
names_with signals locals funcs = record { rows = map row_of signals ++ map row_of locals; signals = map row_of signals; funs = map fun_of funcs }

-- what functions give doesn't depend on processes
pub calls-of : (d : Flat) (files : List File) (n : ℕ) → calls_in (names_of d) files n ≡ calls_within d files n
calls-of d files zero = fun_ext (λ f. fun_ext (λ args. refl))
calls-of d files (suc n) = fun_ext (λ f. fun_ext (λ args. ap (λ call. result_of (scope_with d files call) (slice_get d.funs f) args) (calls-of d files n)))

-- signals of a program have one word, but memories
pub one-words : (rows : List Row) (xs : List Signal) (fs : List Func) → AreOfOneWord (record { rows = rows; signals = map row_of xs; funs = map fun_of fs })
one-words rows xs fs f g e = go fs f e
  where
    go : (ys : List Func) (k : ℕ) → slice_get (map fun_of ys) k ≡ Some g → HasOneWord (map row_of xs ++ g.locals)
    go [] k h = let z : ⊥ = cc in absurd z
    go (y ∷ ys) zero h =
        let same : fun_of y ≡ g = cc in
        subst (λ (z : Fun). HasOneWord (map row_of xs ++ z.locals)) same (subst HasOneWord (map-append row_of xs y.locals) (one-word (xs ++ y.locals)))
    go (y ∷ ys) (suc k) h = go ys k h

flat-words : (d : Design) → AreOfOneWord (names_of (flat_of d))
flat-words d = subst (λ fs. AreOfOneWord (record { rows = map row_of d.signals; signals = map row_of d.signals; funs = fs })) (sym (funs-map d.funcs)) (one-words (map row_of d.signals) d.signals d.funcs)

-- a room of no locals has a design's names
pub names-design : (d : Design) (signals locals : List Signal) (funcs : List Func) → signals ≡ d.signals → locals ≡ [] → funcs ≡ d.funcs
    → names_with signals locals funcs ≡ names_of (flat_of d)
names-design d signals locals funcs e f g = rw (e, f, g, append-nil (map row_of d.signals), funs-map d.funcs) refl

-- what a design's functions give fits their results
pub flat-fits : (d : Design) (files : List File) → IsSound (flat_of d) → GivesFitting (names_of (flat_of d)) (scope_of (flat_of d) files).call
flat-fits d files s =
    subst (GivesFitting (names_of (flat_of d))) (calls-of (flat_of d) files (length (flat_of d).funs)) (calls-fit (names_of (flat_of d)) files s.funs (flat-words d) (length (flat_of d).funs))

pub same-scope : (d : Design) (files : List File) (names : Names) (n : ℕ) → names ≡ names_of (flat_of d) → n ≡ length names.funs
    → rooms.scope_at names files (calls_in names files n) ≡ scope_of (flat_of d) files
same-scope d files names n e m =
    let many : n ≡ length (flat_of d).funs = m ∙ ap (λ x. length x.funs) e in
    rw (e, many) (ap (λ call. rooms.scope_at (names_of (flat_of d)) files call) (calls-of (flat_of d) files (length (flat_of d).funs)))

-- the calls of a design's outermost scope
pub outer-calls : (d : Design) (files : List File) (pre : ℕ → Vec ℕ Global → Type 0) (post : ℕ → Vec ℕ Global → Result ℕ AllocError → Type 0) → IsSound (flat_of d)
    → ((f : ℕ) (args : Vec ℕ Global) → rooms.Fit args.items (input_widths (names_of (flat_of d)) f) → pre f args)
    → ((f : ℕ) (args : Vec ℕ Global) (r : Result ℕ AllocError) → post f args r → IfOk r (λ v. v ≡ (scope_of (flat_of d) files).call f args.items))
    → Calls (scope_of (flat_of d) files) pre post
outer-calls d files pre post s callable gives = record { funs = s.funs; fits = flat-fits d files s; callable = callable; gives = gives }
