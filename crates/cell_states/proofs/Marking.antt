-- Signals are marked that nonblocking assignments name.
use Rattle.std.proofs.Common.{◌≡◌, ◌≢◌, ℕ, ◌+◌, ◌<◌, ◌≤◌, Bool, true, false, List, [], ◌∷◌, ◌++◌, length, map, drop, get_or, replicate, refl, sym, ap, ◌∙◌, arith, subst}
use Rattle.std.specs.Prelude.{◌==◌, ◌||◌, slice_set, slice_index_or}
use Rattle.std.specs.List.{list_any}
use Rattle.std.proofs.lemmas.Bool.{eqb-true, eq-eqb}
use Rattle.std.proofs.lemmas.List.{length-map, length-set, length-replicate, get_or-set_same, get_or-set_other, get_or-replicate, at_drop_more, drop_all}
use Rattle.std.proofs.lemmas.List.Folds.{list_any-append}
use Rattle.vl_design.specs.vl_base.specs.declared.bits.UnOp.TheVariants.{LogNot}
use Rattle.vl_design.specs.declared.design.Design.{Design}
use Rattle.vl_design.specs.declared.design.Process.{Process}
use Rattle.vl_design.specs.Placed as p
use Rattle.vl_design.specs.Plainly as plain
use Rattle.vl_design.specs.Reads.{target_writes, targets_write}
use Rattle.vl_design.specs.Seen.{process_of}
use Rattle.vl_design.specs.Syntax.{Stm, If, Set, Later, Items, Proc}
use Rattle.vl_design.specs.Trees.{flat_of, row_of}
use Rattle.vl_design.proofs.TreeLemmas.{placed-Seq}
use Rattle.cell_emit.specs.vl_sites.proofs.Rows.{list-of, case-of}
use Rattle.ten_form.specs.Delays.{stm_delays, items_delay}
use Rattle.cell_states.specs.Marks.{target_signals, targets_signals, stm_signals, stms_signals, items_signals, procs_signals, marked, AreDelayed}
use Rattle.vl_design.specs.vl_base.proofs.Booleans.{or_false_right as or-none, or_assoc as or-others}

either-same : (a b c e : Bool) → a ≡ c → b ≡ e → (a || b) ≡ (c || e)
either-same a b c e f g = ap (λ x. x || b) f ∙ ap (λ x. c || x) g

-- ---- marks

pub marked-both : (marks : List Bool) (xs ys : List ℕ) → marked marks (xs ++ ys) ≡ marked (marked marks xs) ys
marked-both marks [] ys = refl
marked-both marks (k ∷ xs) ys = marked-both (slice_set marks k true) xs ys

pub marked-long : (marks : List Bool) (xs : List ℕ) → length (marked marks xs) ≡ length marks
marked-long marks [] = refl
marked-long marks (k ∷ xs) = marked-long (slice_set marks k true) xs ∙ length-set marks k true

set-at : (marks : List Bool) (j k : ℕ) → k < length marks → slice_index_or (slice_set marks j true) k false ≡ (slice_index_or marks k false || (j == k))
set-at marks j k lt = of (j == k) refl
  where
    or-true : (a : Bool) → true ≡ (a || true)
    or-true true = refl
    or-true false = refl

    of : (t : Bool) → (j == k) ≡ t → slice_index_or (slice_set marks j true) k false ≡ (slice_index_or marks k false || t)
    of true e =
        let same = eqb-true j k e in
        subst (λ i. slice_index_or (slice_set marks i true) k false ≡ true) (sym same) (get_or-set_same marks k true false lt) ∙ or-true (slice_index_or marks k false)
    of false e =
        let other : k ≢ j = λ s. (let f = eq-eqb j k (sym s) in absurd (cc)) in
        get_or-set_other marks j k true false other ∙ sym (or-none (slice_index_or marks k false))

-- a signal is marked that was, or that is one of these
pub marked-at : (marks : List Bool) (xs : List ℕ) (k : ℕ) → k < length marks → slice_index_or (marked marks xs) k false ≡ (slice_index_or marks k false || list_any (λ j. j == k) xs)
marked-at marks [] k lt = sym (or-none (slice_index_or marks k false))
marked-at marks (j ∷ xs) k lt =
    let long = length-set marks j true in
    marked-at (slice_set marks j true) xs k (omega (arith, long, lt))
    ∙ ap (λ t. t || list_any (λ i. i == k) xs) (set-at marks j k lt)
    ∙ or-others (slice_index_or marks k false) (j == k) (list_any (λ i. i == k) xs)

-- one element more of what is walked through
pub step-more : {X : Type 0} (f : List X → List ℕ) (g : X → List ℕ) (xs : List X) (i : ℕ) (x : X) (start now new : List Bool) → ((y : X) (ys : List X) → f (y ∷ ys) ≡ g y ++ f ys) → i < length xs → x ≡ get_or xs i x →
    new ≡ marked now (g x) → marked now (f (drop i xs)) ≡ marked start (f xs) → marked new (f (drop (i + 1) xs)) ≡ marked start (f xs)
step-more f g xs i x start now new cons lt is e h =
    ap (λ m. marked m (f (drop (i + 1) xs))) e ∙ sym (marked-both now (g x) (f (drop (i + 1) xs)))
    ∙ sym (ap (marked now) (at_drop_more f xs i x lt ∙ ap (λ y. f (y ∷ drop (i + 1) xs)) (sym is) ∙ cons x (drop (i + 1) xs))) ∙ h

pub ruleset marks = (list-of, case-of, placed-Seq, marked-both)

-- ---- the signals that a tree names are those that pass in its plain tree

module _ (q : ℕ → Bool) where
  more : (xs ys : List ℕ) (a b : Bool) → list_any q xs ≡ a → list_any q ys ≡ b → list_any q (xs ++ ys) ≡ (a || b)
  more xs ys a b f g = list_any-append q xs ys ∙ either-same (list_any q xs) (list_any q ys) a b f g

  mutual
    target-named : (t : p.Target) → list_any q (target_signals t) ≡ target_writes q (plain.target t)
    target-named (p.Whole at k) = or-none (q k)
    target-named (p.WordAt at m a) = or-none (q m)
    target-named (p.PickAt at b i from w) = target-named b
    target-named (p.SliceAt at b low w) = target-named b
    target-named (p.Several at ts) = targets-named ts

    targets-named : (ts : p.Targets) → list_any q (targets_signals ts) ≡ targets_write q (plain.targets ts)
    targets-named p.NoTargets = refl
    targets-named (p.MoreTargets t ts) = more (target_signals t) (targets_signals ts) _ _ (target-named t) (targets-named ts)

  -- a call that comes first names none
  called : (path : List ℕ) (e : p.Exp) (a : Stm) → stm_delays q (plain.called_first path e a) ≡ stm_delays q a
  called path (p.Sys at name given) a = refl
  called path (p.Un at LogNot (p.Sys there name given)) a = refl
  called path e a = refl

  item-named : (es : p.Exps) (a : Stm) (others : Items) → items_delay q (plain.item es a others) ≡ (stm_delays q a || items_delay q others)
  item-named p.NoExps a others = refl
  item-named (p.MoreExps e es) a others = refl

  mutual
    stm-named : (path : List ℕ) (a : p.Stm) → list_any q (stm_signals a) ≡ stm_delays q (plain.stm path a)
    stm-named path (p.Nop at) = refl
    stm-named path (p.Seq at list) = stms-named path list
    stm-named path (p.If at t a b) =
        more (stm_signals a) (stm_signals b) _ _ (stm-named path a) (stm-named path b) ∙ sym (called path t (If (plain.exp t) (plain.stm path a) (plain.stm path b)))
    stm-named path (p.Case at e items wild) = items-named path items
    stm-named path (p.For at k start test step a) =
        more (stm_signals start) (stm_signals step ++ stm_signals a) _ _ (stm-named path start) (more (stm_signals step) (stm_signals a) _ _ (stm-named path step) (stm-named path a))
    stm-named path (p.Repeat at n a) = stm-named path a
    stm-named path (p.Set at t e) = sym (called path e (Set (plain.target t) (plain.exp e)))
    stm-named path (p.Later at t e) = target-named t ∙ sym (called path e (Later (plain.target t) (plain.exp e)))
    stm-named path (p.Task at name given) = refl

    stms-named : (path : List ℕ) (list : p.Stms) → list_any q (stms_signals list) ≡ stm_delays q (plain.stms path list)
    stms-named path p.NoStms = refl
    stms-named path (p.MoreStms a others) = more (stm_signals a) (stms_signals others) _ _ (stm-named path a) (stms-named path others)

    items-named : (path : List ℕ) (items : p.Items) → list_any q (items_signals items) ≡ items_delay q (plain.items path items)
    items-named path p.NoItems = refl
    items-named path (p.MoreItems es a others) =
        more (stm_signals a) (items_signals others) _ _ (stm-named path a) (items-named path others) ∙ sym (item-named es (plain.stm path a) (plain.items path others))

  pub procs-named : (list : List p.Process) → list_any q (procs_signals list) ≡ list_any (λ (a : Proc). stm_delays q a.body) (map plain.proc list)
  procs-named [] = refl
  procs-named (a ∷ others) = more (stm_signals a.body) (procs_signals others) _ _ (stm-named a.path a.body) (procs-named others)

-- ---- the marks of a design

pub are-delayed : (d : Design) (n i : ℕ) (procs : List Process) (start marks : List Bool) → n ≡ length d.signals → procs ≡ d.processes → start ≡ replicate n false → length procs ≤ i →
    marked marks (procs_signals (map process_of (drop i procs))) ≡ marked start (procs_signals (map process_of procs)) → AreDelayed (flat_of d) marks
are-delayed d n i procs start marks size same is over h =
    let names : List ℕ = procs_signals (map process_of d.processes) in
    let all : marks ≡ marked start names =
    sym (ap (λ ps. marked marks (procs_signals (map process_of ps))) (drop_all i procs over)) ∙ h ∙ ap (λ ps. marked start (procs_signals (map process_of ps))) same in
    let long : length start ≡ n = ap (λ (m : List Bool). length m) is ∙ length-replicate n false in
    let rows = length-map d.signals row_of in
    record {
      many = ap (λ (m : List Bool). length m) all ∙ marked-long start names ∙ long ∙ size ∙ sym rows;
      each = λ k lt.
          ap (λ m. slice_index_or m k false) all ∙ marked-at start names k (omega (arith, long, size, rows, lt))
          ∙ ap (λ m. slice_index_or m k false || list_any (λ j. j == k) names) is
          ∙ ap (λ t. t || list_any (λ j. j == k) names) (get_or-replicate n k false false (omega (arith, size, rows, lt)))
          ∙ procs-named (λ j. j == k) (map process_of d.processes);
    }
