-- Statements, part by part.
use Rattle.std.proofs.Common.{◌≡◌, ◌<◌, ◌+◌, ℕ, Bool, false, List, [], ◌∷◌, ◌++◌, length, drop, get_or, refl, sym, ap, ◌∙◌, subst, append_assoc, append-nil}
use Rattle.std.specs.declared.alloc.Global.{Global}
use Rattle.std.specs.declared.boxed.Box.{Box}
use Rattle.std.specs.declared.vec.Vec.{Vec}
use Rattle.vl_design.specs.declared.design.CaseItem.{CaseItem}
use Rattle.vl_design.specs.declared.design.Expr.{Expr}
use Rattle.vl_design.specs.declared.design.SysCall.{SysCall}
use Rattle.vl_design.specs.declared.design.Target.{Target as TargetCode}
use Rattle.vl_design.specs.declared.design.Stmt.{Stmt}
use Rattle.vl_design.specs.declared.design.StmtNode as s
use Rattle.vl_design.specs.Plainly as plain
use Rattle.vl_design.specs.Plainly.{called_first}
use Rattle.vl_design.specs.Seen as seen
use Rattle.vl_design.specs.Sound.{IsSoundExp, IsSoundTarget, IsSoundStm, AreSoundItems}
use Rattle.vl_design.specs.Syntax.{Stm, Nop, Then, If, Set, Later, Case}
use Rattle.vl_design.specs.Trees.{exp_of, target_of, stm_of, then_of}
use Rattle.vl_design.specs.Width.{Names}
use Rattle.vl_design.proofs.TreeLemmas.{stm_of-Seq, then-more}
use Rattle.vl_bits.specs.declared.parts.Part.{Part}
use Rattle.vl_bits.specs.declared.sets.Sets.{Sets}
use Rattle.vl_bits.specs.Cases.{items_of}
use Rattle.vl_bits.specs.Walks.{Walks}
use Rattle.vl_bits.proofs.Steps.{called_sound, called_walks, nothing, then_walks}
use Rattle.vl_bits.proofs.Casing.{case-of}

module _ (names : Names) (path : List ℕ) (x : Stmt) where
  if-of : (t : Expr) (a b : Box Stmt Global) → x.node ≡ s.If t a b → stm_of path x ≡ called_first path (seen.exp_of t) (If (exp_of t) (stm_of path a.value) (stm_of path b.value))
  if-of t a b h = ap (λ n. plain.stm path (seen.node_stm x.place n)) h

  set-of : (t : TargetCode) (e : Expr) → x.node ≡ s.Set t e → stm_of path x ≡ called_first path (seen.exp_of e) (Set (target_of t) (exp_of e))
  set-of t e h = ap (λ n. plain.stm path (seen.node_stm x.place n)) h

  later-of : (t : TargetCode) (e : Expr) → x.node ≡ s.Later t e → stm_of path x ≡ called_first path (seen.exp_of e) (Later (target_of t) (exp_of e))
  later-of t e h = ap (λ n. plain.stm path (seen.node_stm x.place n)) h

  -- ---- walks through the parts are walks through the whole

  pub if-walks : (t : Expr) (a b : Box Stmt Global) (u v : Sets) (more : List Part) → x.node ≡ s.If t a b → Walks names (If (exp_of t) (stm_of path a.value) (stm_of path b.value)) u v more → Walks names (stm_of path x) u v more
  if-walks t a b u v more h w = rw (if-of t a b h) (called_walks names path (seen.exp_of t) _ u v more w)

  pub set-walks : (t : TargetCode) (e : Expr) (u v : Sets) (more : List Part) → x.node ≡ s.Set t e → Walks names (Set (target_of t) (exp_of e)) u v more → Walks names (stm_of path x) u v more
  set-walks t e u v more h w = rw (set-of t e h) (called_walks names path (seen.exp_of e) _ u v more w)

  pub later-walks : (t : TargetCode) (e : Expr) (u : Sets) (more : List Part) → x.node ≡ s.Later t e → more ≡ [] → Walks names (stm_of path x) u u more
  later-walks t e u more h z = rw (later-of t e h) (called_walks names path (seen.exp_of e) (Later (target_of t) (exp_of e)) u u more (nothing u more z))

  pub nop-walks : (u : Sets) (more : List Part) → x.node ≡ s.Nop → more ≡ [] → Walks names (stm_of path x) u u more
  nop-walks u more h z = rw h (nothing u more z)

  pub for-walks : (k : ℕ) (start : Box Stmt Global) (t : Expr) (step a : Box Stmt Global) (u : Sets) (more : List Part) → x.node ≡ s.For k start t step a → more ≡ [] → Walks names (stm_of path x) u u more
  for-walks k start t step a u more h z = rw h (nothing u more z)

  pub repeat-walks : (n : ℕ) (a : Box Stmt Global) (u : Sets) (more : List Part) → x.node ≡ s.Repeat n a → more ≡ [] → Walks names (stm_of path x) u u more
  repeat-walks n a u more h z = rw h (nothing u more z)

  pub sys-walks : (call : SysCall) (u : Sets) (more : List Part) → x.node ≡ s.Sys call → more ≡ [] → Walks names (stm_of path x) u u more
  sys-walks call u more h z = rw h (nothing u more z)

  -- ---- parts of a sound statement are sound

  module _ (sound : IsSoundStm names (stm_of path x)) where
    if-sound : (t : Expr) (a b : Box Stmt Global) → x.node ≡ s.If t a b → IsSoundStm names (If (exp_of t) (stm_of path a.value) (stm_of path b.value))
    if-sound t a b h = called_sound names path (seen.exp_of t) _ (rw (if-of t a b h) at sound)

    pub if-test : (t : Expr) (a b : Box Stmt Global) → x.node ≡ s.If t a b → IsSoundExp names (exp_of t)
    if-test t a b h = (if-sound t a b h).0

    pub if-first : (t : Expr) (a b : Box Stmt Global) → x.node ≡ s.If t a b → IsSoundStm names (stm_of path a.value)
    if-first t a b h = (if-sound t a b h).1

    pub if-second : (t : Expr) (a b : Box Stmt Global) → x.node ≡ s.If t a b → IsSoundStm names (stm_of path b.value)
    if-second t a b h = (if-sound t a b h).2

    set-sound : (t : TargetCode) (e : Expr) → x.node ≡ s.Set t e → IsSoundStm names (Set (target_of t) (exp_of e))
    set-sound t e h = called_sound names path (seen.exp_of e) _ (rw (set-of t e h) at sound)

    pub set-target : (t : TargetCode) (e : Expr) → x.node ≡ s.Set t e → IsSoundTarget names (target_of t)
    set-target t e h = (set-sound t e h).0

    pub set-source : (t : TargetCode) (e : Expr) → x.node ≡ s.Set t e → IsSoundExp names (exp_of e)
    set-source t e h = (set-sound t e h).1

    pub case-subject : (e : Expr) (v : Vec CaseItem Global) (wild : Bool) → x.node ≡ s.Case e v wild → IsSoundExp names (exp_of e)
    case-subject e v wild h = let k : IsSoundStm names (Case (exp_of e) (items_of path v.items)) = rw (case-of path x e v wild v.items h refl) at sound in k.0

    pub case-items : (e : Expr) (v : Vec CaseItem Global) (wild : Bool) (xs : List CaseItem) → x.node ≡ s.Case e v wild → xs ≡ v.items → AreSoundItems names (items_of path xs)
    case-items e v wild xs h g = let k : IsSoundStm names (Case (exp_of e) (items_of path xs)) = rw (case-of path x e v wild xs h g) at sound in k.1

    pub seq-sound : (v : Vec Stmt Global) (xs : List Stmt) → x.node ≡ s.Seq v → xs ≡ v.items → IsSoundStm names (then_of path xs)
    seq-sound v xs h g = let k : IsSoundStm names (then_of path v.items) = rw (stm_of-Seq path x v h) at sound in rw g k

pub seq-walks : (names : Names) (path : List ℕ) (x : Stmt) (v : Vec Stmt Global) (xs : List Stmt) (t u : Sets) (more : List Part) → x.node ≡ s.Seq v → xs ≡ v.items → Walks names (then_of path xs) t u more → Walks names (stm_of path x) t u more
seq-walks names path x v xs t u more h g w = rw (stm_of-Seq path x v h ∙ ap (then_of path) (sym g)) w

-- ---- one statement after another: where the rest leads from here, the whole leads

pub record Leading (names : Names) (whole rest : Stm) (s t : Sets) (all : List Part) : Type 0 where
  pub sound : IsSoundStm names rest
  pub long : length t.known.items ≡ length s.known.items
  pub leads : (u : Sets) (more : List Part) → Walks names rest t u more → Walks names whole s u (all ++ more)

pub leads-first : (names : Names) (whole : Stm) (t : Sets) (all : List Part) → all ≡ [] → IsSoundStm names whole → Leading names whole whole t t all
leads-first names whole t all e sound = record {
  sound = sound;
  long = refl;
  leads = λ u more w. rw e w;
}

pub leads-next : (names : Names) (whole : Stm) (path : List ℕ) (xs : List Stmt) (i : ℕ) (x : Stmt) (s t u : Sets) (all p both : List Part) → i < length xs → x ≡ get_or xs i x → both ≡ all ++ p →
    Leading names whole (then_of path (drop i xs)) s t all → Walks names (stm_of path x) t u p → Leading names whole (then_of path (drop (i + 1) xs)) s u both
leads-next names whole path xs i x s t u all p both l e joined c w =
    let more = then-more path xs i x l e in
    let sound : IsSoundStm names (Then (stm_of path x) (then_of path (drop (i + 1) xs))) = rw more at c.sound in
    record {
      sound = sound.1;
      long = w.collects.long ∙ c.long;
      leads = λ v q g.
          let first : Walks names (then_of path (drop i xs)) t v (p ++ q) = rw more (then_walks names (stm_of path x) (then_of path (drop (i + 1) xs)) t u v p q w g) in
          rw (joined, append_assoc all p q) (c.leads v (p ++ q) first);
    }

pub leads-last : (names : Names) (whole : Stm) (path : List ℕ) (xs : List Stmt) (s t : Sets) (all : List Part) → xs ≡ [] → Leading names whole (then_of path xs) s t all → Walks names whole s t all
leads-last names whole path xs s t all e c =
    let none : Walks names (then_of path xs) t t [] = rw e (nothing t [] refl) in
    subst (λ (ps : List Part). Walks names whole s t ps) (append-nil all) (c.leads t [] none)

pub ruleset statements = (if-test, if-first, if-second, set-target, set-source, case-subject, case-items, seq-sound)
