-- A run is at one point after each act, and in one state before each call.
use Rattle.std.proofs.Common.{◌≡◌, ℕ, List, Option, refl, sym, ◌∙◌, ap, subst}
use Rattle.vl_base.specs.declared.files.File.{File}
use Rattle.vl_design.specs.Syntax.{Stm, Task, Flat}
use Rattle.vl_design.specs.Queue.{Queue, evaluated}
use Rattle.vl_design.specs.Snapshots.{Snapshot}
use Rattle.vl_design.specs.Alone.{Origin}
use Rattle.vl_design.specs.Acts.{Point, Between, entered, Reached, Completes, Calls, Chooses, reach, Calms, calm, goes, Did, Act, of_wave, updates, Begins, from_nothing, from_snapshot, After, begins, acts, NextIs, Before, before}

module _ (d : Flat) (files : List File) where
  pub calms_once : {q a b : Queue} → Calms d files q a → Calms d files q b → a ≡ b
  calms_once (calm e) (calm f) = refl
  calms_once (calm e) (goes f s) = cc
  calms_once (goes e r) (calm f) = cc
  calms_once {q} {a} {b} (goes {p = x} e r) (goes {p = y} f s) =
      let same : x ≡ y = cc in
      calms_once r (subst (λ z. Calms d files (evaluated d files q z) b) (sym same) s)

  did_once : (r : Reached) (a b : Point) → Did d files r a → Did d files r b → a ≡ b
  did_once (Completes q) a b x y = x.2 ∙ ap Between (calms_once x.1 y.1) ∙ sym y.2
  did_once (Calls task q rest from committed) a b x y = x ∙ sym y
  did_once (Chooses q rest from committed) a b x y = x ∙ sym y

  pub act_once : {p a b : Point} → Act d files p a → Act d files p b → a ≡ b
  act_once {p} {a} {b} (of_wave left e x) (of_wave other f y) =
      let same : left ≡ other = cc in
      did_once (reach d files (entered d files p) left) a b x (subst (λ l. Did d files (reach d files (entered d files p) l) b) (sym same) y)
  act_once (of_wave {p = Between q} left e x) (updates f y) = let z = rw f at e in cc
  act_once (updates {q = q} e x) (of_wave left f y) = let z = rw e at f in cc
  act_once (updates e x) (updates f y) = ap Between (calms_once x y)

module _ (o : Origin) where
  begins_once : {s : Option Snapshot} {a b : Point} → Begins o s a → Begins o s b → a ≡ b
  begins_once from_nothing from_nothing = refl
  begins_once (from_snapshot x) (from_snapshot y) = ap Between (calms_once o.flat o.files x y)

  pub after_once : {c : ℕ} {a b : Point} → After o c a → After o c b → a ≡ b
  after_once (begins x) (begins y) = begins_once x y
  after_once {b = b} (acts {p = p} x e s) (acts {p = q} y f t) =
      let same : p ≡ q = after_once x y in
      act_once o.flat o.files s (subst (λ z. Act o.flat o.files z b) (sym same) t)

  next_once : {p : Point} {task other : Task} {q r : Queue} {rest more : List Stm} {from old committed first : List (List ℕ)} → NextIs o p task q rest from committed → NextIs o p other r more old first
      → Calls task q rest from committed ≡ Calls other r more old first
  next_once {p} {task} {other} {q} {r} {rest} {more} {from} {old} {committed} {first} x y =
      let e = x.in_wave in
      let f = y.in_wave in
      let same : y.left ≡ x.left = cc in
      let g = x.next in
      let h = subst (λ l. reach o.flat o.files (entered o.flat o.files p) l ≡ Calls other r more old first) same y.next in
      cc

  pub before_once : {c : ℕ} {x y : Task} {p r : Point} → Before o c x p → Before o c y r → (x ≡ y) × (p ≡ r)
  before_once (before {p = p} task q rest from committed x n) (before {p = p'} other r more old first y m) =
      let same : p ≡ p' = after_once x y in
      let e = next_once n (subst (λ z. NextIs o z other r more old first) (sym same) m) in
      (cc, cc)
