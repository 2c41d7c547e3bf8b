-- The form in which the labels of ways are compared.
use Rattle.std.proofs.Common.{◌≡◌, ℕ, zero, suc, ◌+◌, ◌<◌, ◌≤◌, List, [], ◌∷◌, map, drop, length, get_or, refl, sym, ap, ◌∙◌, arith, subst}
use Rattle.std.specs.Prelude.{All}
use Rattle.std.proofs.lemmas.List.{drop_more}
use Rattle.vl_design.specs.declared.design.Form.{Form}
use Rattle.vl_design.specs.Exec.{labels_form}
use Rattle.vl_design.specs.Syntax.{Exps, NoExps, MoreExps}
use Rattle.vl_design.specs.Trees.{exps_of}
use Rattle.vl_design.specs.Width.{Names, form, joined}
use Rattle.vl_run.specs.Cases.{AreWithin}
use Rattle.vl_run.proofs.Casing.{labels-within}
use Rattle.ten_form.specs.sub_nodes.specs.Nodes as n
use Rattle.ten_form.specs.sub_nodes.specs.Cycles.{ways_form}
use Rattle.ten_form.specs.sub_split.specs.declared.table.Way.{Way}
use Rattle.ten_form.specs.sub_split.specs.Views.{way_view}
use Rattle.cell_calls.specs.Next.{ways_view}
use Rattle.vl_run.proofs.Casing.{within-more}

labels-grow : (names : Names) (f : Form) (es : Exps) → f.width ≤ (labels_form names f es).width
labels-grow names f NoExps = omega arith
labels-grow names f (MoreExps e es) =
    let h = labels-grow names (joined f (form names e)) es in
    let k : f.width ≤ (joined f (form names e)).width = omega arith in
    omega (arith, h, k)

ways-grow : (names : Names) (f : Form) (ws : List n.Way) → f.width ≤ (ways_form names f ws).width
ways-grow names f [] = omega arith
ways-grow names f (w ∷ ws) =
    let h = ways-grow names (labels_form names f w.labels) ws in
    let k = labels-grow names f w.labels in
    omega (arith, h, k)

-- the form is as wide as each label, and as the subject
pub ways-within : (names : Names) (f : Form) (ws : List Way) (i : ℕ) (d : Way) → i < length ws → AreWithin names (ways_form names f (ways_view ws)).width (exps_of (get_or ws i d).labels.now)
ways-within names f [] i d h = absurd (omega (arith, h))
ways-within names f (w ∷ ws) zero d h =
    let g = labels_form names f (exps_of w.labels.now) in
    within-more names g.width _ (exps_of w.labels.now) (ways-grow names g (ways_view ws)) (labels-within names f (exps_of w.labels.now))
ways-within names f (w ∷ ws) (suc i) d h = ways-within names (labels_form names f (exps_of w.labels.now)) ws i d (omega (arith, h))

pub subject-within : (names : Names) (f : Form) (ws : List n.Way) → f.width ≤ (ways_form names f ws).width
subject-within names f ws = ways-grow names f ws

-- the ways from a number on are the way of it and those behind
pub ways-from : (ws : List Way) (i : ℕ) (d : Way) → i < length ws → ways_view (drop i ws) ≡ way_view (get_or ws i d) ∷ ways_view (drop (i + 1) ws)
ways-from ws i d h = ap ways_view (drop_more ws i d h)

pub ways-read : (ws : List Way) (i : ℕ) (x : Way) → i < length ws → x ≡ get_or ws i x → ways_view (drop i ws) ≡ way_view x ∷ ways_view (drop (i + 1) ws)
ways-read ws i x h e = ways-from ws i x h ∙ ap (λ (y : Way). way_view y ∷ ways_view (drop (i + 1) ws)) (sym e)
