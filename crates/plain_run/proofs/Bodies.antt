-- The processes of a design, one by one.
use Rattle.std.proofs.Common.{◌≡◌, ℕ, ◌<◌, ◌+◌, Bool, true, false, List, [], ◌∷◌, map, length, drop, get_or, refl, sym, ap, ◌∙◌, subst}
use Rattle.std.specs.Prelude.{◌||◌}
use Rattle.std.specs.List.{list_any}
use Rattle.std.proofs.lemmas.List.{at_drop_more}
use Rattle.vl_eval.specs.vl_design.specs.declared.design.Process.{Process}
use Rattle.vl_eval.specs.vl_design.specs.declared.design.ProcKind.{ProcKind}
use Rattle.vl_eval.specs.vl_design.specs.Syntax.{Proc, Flat, Stm}
use Rattle.vl_eval.specs.vl_design.specs.Width.{Scope}
use Rattle.vl_eval.specs.vl_design.specs.Queue.{is_fall}
use Rattle.vl_eval.specs.vl_design.specs.Alone.{blocks, falls}
use Rattle.vl_eval.specs.vl_design.specs.Trees.{proc_of}
use Rattle.vl_eval.specs.vl_design.proofs.Returning.{exec_ticks}
use Rattle.vl_runs.specs.vl_paths.proofs.Ways.{or_false}
use Rattle.vl_run.specs.declared.machine.Machine.{Machine}
use Rattle.vl_run.specs.Machines.{state_of, Does}
use Rattle.plain_run.specs.Runs.{has_fall}
pub use Rattle.vl_eval.specs.vl_design.proofs.Shared.{blocks-passed, blocks-taken}

-- a statement begins no tick
pub does-ticks : (scope : Scope) (a : Stm) (m n : Machine) → Does scope a m n → n.ticks ≡ m.ticks
does-ticks scope a m n h =
    let x = h.leads 0 in
    sym (ap (λ s. s.ticks) x.1) ∙ sym (exec_ticks scope a (state_of m 0))

-- ---- the rest of a list of processes

-- the blocks of a wave
pub blocks-more : (p : ProcKind → Bool) (xs : List Process) (i : ℕ) (x : Process) → i < length xs → x ≡ get_or xs i x → blocks p (map proc_of (drop i xs)) ≡ blocks p (map proc_of (x ∷ drop (i + 1) xs))
blocks-more p xs i x h e = at_drop_more (λ ys. blocks p (map proc_of ys)) xs i x h ∙ ap (λ y. blocks p (map proc_of (y ∷ drop (i + 1) xs))) (sym e)

-- ---- blocks that wait for the fall

abbrev pub any-fall : List Proc → Bool
any-fall ps = list_any (λ p. is_fall p.kind) ps

no-blocks : (ps : List Proc) → any-fall ps ≡ false → blocks is_fall ps ≡ []
no-blocks [] h = refl
no-blocks (p ∷ ps) h =
    let g = or_false (is_fall p.kind) (any-fall ps) h in
    blocks-passed is_fall p ps g.0 ∙ no-blocks ps g.1

some-blocks : (ps : List Proc) → any-fall ps ≡ true → falls (blocks is_fall ps) ≡ blocks is_fall ps ∷ []
some-blocks [] h = let z : ⊥ = cc in absurd z
some-blocks (p ∷ ps) h = go (is_fall p.kind) refl (some-blocks ps)
  where
    go : (b : Bool) → is_fall p.kind ≡ b → (any-fall ps ≡ true → falls (blocks is_fall ps) ≡ blocks is_fall ps ∷ []) → falls (blocks is_fall (p ∷ ps)) ≡ blocks is_fall (p ∷ ps) ∷ []
    go true e f = let g : blocks is_fall (p ∷ ps) ≡ p ∷ blocks is_fall ps = blocks-taken is_fall p ps e in rw g refl
    go false e f =
        let g : blocks is_fall (p ∷ ps) ≡ blocks is_fall ps = blocks-passed is_fall p ps e in
        rw g (f (subst (λ b. (b || any-fall ps) ≡ true) e h))

pub no-falls : (d : Flat) → has_fall d ≡ false → falls (blocks is_fall d.procs) ≡ []
no-falls d h = ap falls (no-blocks d.procs h)

pub with-falls : (d : Flat) → has_fall d ≡ true → falls (blocks is_fall d.procs) ≡ blocks is_fall d.procs ∷ []
with-falls d h = some-blocks d.procs h
