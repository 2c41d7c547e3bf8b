-- In a run of an unrolled design each statement that is left is unrolled.
use Rattle.std.proofs.Common.{◌≡◌, ℕ, List, ◌++◌, subst}
use Rattle.std.specs.Prelude.{⊤, All}
use Rattle.std.proofs.lemmas.List.Elements.{All-map, All-append}
use Rattle.vl_design.specs.vl_base.specs.declared.files.File.{File}
use Rattle.vl_design.specs.Syntax.{Stm, Items, NoItems, Labelled, Default, Proc, Flat}
use Rattle.vl_design.specs.Queue.{Wave}
use Rattle.vl_design.specs.Alone.{Origin}
use Rattle.vl_design.specs.Acts.{Point, Between, Inside, queue_at, entered, After}
use Rattle.vl_design.specs.Laws.{IsUnrolledStm, AreUnrolledItems, IsUnrolled}
use Rattle.vl_design.proofs.Acting.{Bodies, IsHereditary, EventSteps, PointHas, left_of, after_has, entered_leads}
use Rattle.sub_nodes.specs.Implements.{bodies}

-- the statements from a point on to the end of its wave, of which these blocks are left
abbrev pub statements : Point → List Proc → List Stm
statements (Between q) left = bodies left
statements (Inside q rest from committed) left = rest ++ bodies left

items_unrolled : (items : Items) → AreUnrolledItems items → Bodies IsUnrolledStm items
items_unrolled NoItems u = tt
items_unrolled (Labelled es a others) u = (u.0, items_unrolled others u.1)
items_unrolled (Default a others) u = (u.0, items_unrolled others u.1)

unrolled_parts : IsHereditary IsUnrolledStm
unrolled_parts = record { none = tt; parts = λ a b u. u; branches = λ t a b u. u; items = λ e items u. items_unrolled items u }

any_steps : (d : Flat) (files : List File) → IsUnrolled d → EventSteps d files IsUnrolledStm (λ s t. ⊤)
any_steps d files u = record {
  kind = unrolled_parts;
  procs = u.procs;
  same = λ s. tt;
  next = λ a b c f g. tt;
  execs = λ a h s. tt;
  counts = λ s. tt;
  calls = λ task h s. tt;
  updates = λ s. tt;
  rises = λ s. tt;
}

module _ (d : Flat) (files : List File) (u : IsUnrolled d) where
  at_point : (p : Point) (left : List Proc) → (queue_at p).phase ≡ Wave left → PointHas d files IsUnrolledStm (λ s t. ⊤) (any_steps d files u) p → All IsUnrolledStm (statements p left)
  at_point (Between q) left e h = All-map IsUnrolledStm (λ (x : Proc). x.body) left (subst (λ z. All (λ (x : Proc). IsUnrolledStm x.body) (left_of z)) e h.left)
  at_point (Inside q rest from committed) left e h =
      All-append IsUnrolledStm rest (bodies left) h.1 (All-map IsUnrolledStm (λ (x : Proc). x.body) left (subst (λ z. All (λ (x : Proc). IsUnrolledStm x.body) (left_of z)) e h.0.left))

-- and where the next wave has begun
pub run_unrolled : (o : Origin) → IsUnrolled o.flat → {c : ℕ} {p : Point} → After o c p → (left : List Proc) → (queue_at (entered o.flat o.files p)).phase ≡ Wave left
    → All IsUnrolledStm (statements (entered o.flat o.files p) left)
run_unrolled o u {c} {p} x left e =
    let steps = any_steps o.flat o.files u in
    at_point o.flat o.files u (entered o.flat o.files p) left e (entered_leads o.flat o.files IsUnrolledStm (λ s t. ⊤) steps p (after_has o IsUnrolledStm (λ s t. ⊤) steps x)).1
