-- The labels and the branches of cases.
use Rattle.std.proofs.Common.{◌≡◌, ◌≢◌, ◌==◌, ◌<◌, ◌≤◌, ◌+◌, ◌-◌, ◌^◌, ◌%◌, ℕ, zero, suc, List, [], ◌∷◌, Bool, true, false, length, drop, get_or, refl, sym, ap, ◌∙◌, subst, arith, true≢false, if◌then◌else◌}
use Rattle.std.specs.Prelude.{Some}
use Rattle.std.proofs.lemmas.List.{drop_more}
use Rattle.std.proofs.lemmas.Option.{slice_get-get_or}
use Rattle.std.proofs.Math.Nat.{mod-eq_of_lt}
use Rattle.std.proofs.Math.Pow.{pow_mono}
use Rattle.std.specs.declared.alloc.Global.{Global}
use Rattle.std.specs.declared.vec.Vec.{Vec}
use Rattle.vl_design.specs.declared.design.Form.{Form}
use Rattle.vl_design.specs.declared.design.Expr.{Expr}
use Rattle.vl_design.specs.declared.design.Stmt.{Stmt}
use Rattle.vl_design.specs.declared.design.CaseItem.{CaseItem}
use Rattle.vl_design.specs.declared.design.StmtNode as s
use Rattle.vl_design.specs.declared.design.StmtNode.TheBlock as sb
use Rattle.vl_design.specs.Acts.{branch_of, chosen_body, default_body}
use Rattle.vl_design.specs.Exec.{labels_form, items_form, some_match}
use Rattle.vl_design.specs.Placed as p
use Rattle.vl_design.specs.Plainly as plain
use Rattle.vl_design.specs.Seen as seen
use Rattle.vl_design.specs.Sound.{AreSound, AreSoundItems, IsSoundStm}
use Rattle.vl_design.specs.Syntax.{Exp, Exps, NoExps, MoreExps, Stm, Case, Items}
use Rattle.vl_design.specs.Trees.{exp_of, exps_of, stm_of}
use Rattle.vl_design.specs.Value.{Sample, value}
use Rattle.vl_design.specs.Width.{Names, Scope, form, joined}
use Rattle.vl_eval.proofs.Rows.{exps-more, first-sound}
use Rattle.vl_eval.proofs.Widths.{form-width}
use Rattle.vl_run.proofs.Doing.{not-zero}
use Rattle.vl_run.specs.Cases.{items_of, body_of, body_at, body_or, AreWithin, AreSoundLabels, AreLabelsWithin}
use Rattle.vl_design.proofs.Shared.{item-sound}

-- ---- items one by one

drop-is : (xs : List CaseItem) (i : ℕ) (x : CaseItem) → i < length xs → x ≡ get_or xs i x → drop i xs ≡ x ∷ drop (i + 1) xs
drop-is xs i x h e = drop_more xs i x h ∙ ap (λ y. y ∷ drop (i + 1) xs) (sym e)

pub items-more : (path : List ℕ) (xs : List CaseItem) (i : ℕ) (x : CaseItem) → i < length xs → x ≡ get_or xs i x → items_of path (drop i xs) ≡ plain.item (seen.exps_of x.labels.items) (stm_of path x.body) (items_of path (drop (i + 1) xs))
items-more path xs i x h e = ap (items_of path) (drop-is xs i x h e)

pub labels-more : (names : Names) (xs : List CaseItem) (i : ℕ) (x : CaseItem) → i < length xs → x ≡ get_or xs i x → AreSoundLabels names (drop i xs) → AreSound names (exps_of x.labels.items) × AreSoundLabels names (drop (i + 1) xs)
labels-more names xs i x h e s = subst (AreSoundLabels names) (drop-is xs i x h e) s

pub labels-within-more : (names : Names) (w : ℕ) (xs : List CaseItem) (i : ℕ) (x : CaseItem) → i < length xs → x ≡ get_or xs i x → AreLabelsWithin names w (drop i xs) → AreWithin names w (exps_of x.labels.items) × AreLabelsWithin names w (drop (i + 1) xs)
labels-within-more names w xs i x h e s = subst (AreLabelsWithin names w) (drop-is xs i x h e) s

row_items-items : (path : List ℕ) {m : _} (k : s.Row_of-CaseItem m) → plain.items path (seen.row_items k) ≡ items_of path (s.items-the_row-CaseItem m k)
row_items-items path s.end_of-CaseItem = refl
row_items-items path (s.more_of-CaseItem labels q v rest) = ap (plain.item (seen.exps_of labels.items) (plain.stm path (seen.node_stm q v))) (row_items-items path rest)

-- a case has the tree of its items
pub case-of : (path : List ℕ) (x : Stmt) (e : Expr) (v : Vec CaseItem Global) (wild : Bool) → x.node ≡ s.Case e v wild → stm_of path x ≡ Case (exp_of e) (items_of path v.items)
case-of path x e v wild h =
    ap (λ n. plain.stm path (seen.node_stm x.place n)) h
    ∙ ap (Case (exp_of e)) (row_items-items path (sb.hidden-the_row-CaseItem-1 v) ∙ ap (items_of path) (s.items_hidden-the_row-CaseItem-1 v))

pub labels-sound : (names : Names) (path : List ℕ) (xs : List CaseItem) → AreSoundItems names (items_of path xs) → AreSoundLabels names xs
labels-sound names path [] h = tt
labels-sound names path (x ∷ xs) h =
    let k = item-sound names (seen.exps_of x.labels.items) (stm_of path x.body) (items_of path xs) h in
    (k.0, labels-sound names path xs k.2)

pub body-sound : (names : Names) (path : List ℕ) (xs : List CaseItem) (i : ℕ) (d : CaseItem) → i < length xs → AreSoundItems names (items_of path xs) → IsSoundStm names (stm_of path (get_or xs i d).body)
body-sound names path [] i d l h = absurd (omega arith)
body-sound names path (x ∷ xs) zero d l h = (item-sound names (seen.exps_of x.labels.items) (stm_of path x.body) (items_of path xs) h).1
body-sound names path (x ∷ xs) (suc i) d l h = body-sound names path xs i d (omega arith) (item-sound names (seen.exps_of x.labels.items) (stm_of path x.body) (items_of path xs) h).2

pub body-is : (path : List ℕ) (xs : List CaseItem) (i : ℕ) (x : CaseItem) → i < length xs → x ≡ get_or xs i x → body_at path xs (Some i) ≡ stm_of path x.body
body-is path xs i x l e = ap (body_of path) (slice_get-get_or xs i x l ∙ ap Some (sym e))

pub case-items : (names : Names) (path : List ℕ) (x : Stmt) (e : Expr) (v : Vec CaseItem Global) (wild : Bool) (xs : List CaseItem) → x.node ≡ s.Case e v wild → xs ≡ v.items
    → IsSoundStm names (stm_of path x) → AreSoundItems names (items_of path xs)
case-items names path x e v wild xs h k q = let both = rw (case-of path x e v wild h) at q in subst (λ (ys : List CaseItem). AreSoundItems names (items_of path ys)) (sym k) both.1

-- ---- forms

labels-grow : (names : Names) (f : Form) (es : Exps) → f.width ≤ (labels_form names f es).width
labels-grow names f NoExps = omega arith
labels-grow names f (MoreExps e es) =
    let h = labels-grow names (joined f (form names e)) es in
    let k : f.width ≤ (joined f (form names e)).width = omega arith in
    omega (arith, h, k)

pub labels-within : (names : Names) (f : Form) (es : Exps) → AreWithin names (labels_form names f es).width es
labels-within names f NoExps = tt
labels-within names f (MoreExps e es) =
    let h = labels-grow names (joined f (form names e)) es in
    let k : (form names e).width ≤ (joined f (form names e)).width = omega arith in
    (omega (arith, h, k), labels-within names (joined f (form names e)) es)

pub within-more : (names : Names) (v w : ℕ) (es : Exps) → v ≤ w → AreWithin names v es → AreWithin names w es
within-more names v w NoExps l h = tt
within-more names v w (MoreExps e es) l h = let k = h.0 in (omega (arith, l, k), within-more names v w es l h.1)

pub item-form : (names : Names) (f : Form) (es : p.Exps) (a : Stm) (others : Items) → items_form names f (plain.item es a others) ≡ items_form names (labels_form names f (plain.exps es)) others
item-form names f p.NoExps a others = refl
item-form names f (p.MoreExps e es) a others = refl

pub items-form-more : (names : Names) (f : Form) (path : List ℕ) (xs : List CaseItem) (i : ℕ) (x : CaseItem) → i < length xs → x ≡ get_or xs i x
    → items_form names f (items_of path (drop i xs)) ≡ items_form names (labels_form names f (exps_of x.labels.items)) (items_of path (drop (i + 1) xs))
items-form-more names f path xs i x l e =
    ap (items_form names f) (items-more path xs i x l e) ∙ item-form names f (seen.exps_of x.labels.items) (stm_of path x.body) (items_of path (drop (i + 1) xs))

pub items-grow : (names : Names) (path : List ℕ) (f : Form) (xs : List CaseItem) → f.width ≤ (items_form names f (items_of path xs)).width
items-grow names path f [] = omega arith
items-grow names path f (x ∷ xs) =
    let h = items-grow names path (labels_form names f (exps_of x.labels.items)) xs in
    let k = labels-grow names f (exps_of x.labels.items) in
    rw (item-form names f (seen.exps_of x.labels.items) (stm_of path x.body) (items_of path xs)) (omega (arith, h, k))

pub items-within : (names : Names) (path : List ℕ) (f : Form) (xs : List CaseItem) → AreLabelsWithin names (items_form names f (items_of path xs)).width xs
items-within names path f [] = tt
items-within names path f (x ∷ xs) =
    let g = labels_form names f (exps_of x.labels.items) in
    let h = items-grow names path g xs in
    subst (λ (z : Form). AreLabelsWithin names z.width (x ∷ xs)) (sym (item-form names f (seen.exps_of x.labels.items) (stm_of path x.body) (items_of path xs)))
    (within-more names g.width _ (exps_of x.labels.items) h (labels-within names f (exps_of x.labels.items)), items-within names path g xs)

-- ---- the item that is chosen

module _ (scope : Scope) (smp : Sample) (v : ℕ) (c : Form) (path : List ℕ) where
  at-if : (b : Bool) (x y : Stm) → b ≡ true → (if b then x else y) ≡ x
  at-if true x y h = refl
  at-if false x y h = cc

  at-else : (b : Bool) (x y : Stm) → b ≡ false → (if b then x else y) ≡ y
  at-else true x y h = cc
  at-else false x y h = refl

  -- an item with a label that matches is chosen
  pub item-chosen : (es : p.Exps) (a : Stm) (others : Items) (o : Stm) → some_match scope smp c v (plain.exps es) ≡ true → chosen_body scope smp v c (plain.item es a others) o ≡ a
  item-chosen p.NoExps a others o h = let z : ⊥ = cc in absurd z
  item-chosen (p.MoreExps e es) a others o h = at-if (some_match scope smp c v (plain.exps (p.MoreExps e es))) a (chosen_body scope smp v c others o) h

  -- another is passed
  pub item-passed : (es : p.Exps) (a : Stm) (others : Items) (o : Stm) → some_match scope smp c v (plain.exps es) ≡ false → chosen_body scope smp v c (plain.item es a others) o ≡ chosen_body scope smp v c others o
  item-passed p.NoExps a others o h = refl
  item-passed (p.MoreExps e es) a others o h = at-else (some_match scope smp c v (plain.exps (p.MoreExps e es))) a (chosen_body scope smp v c others o) h

-- where an item is chosen whose rest is as good as the whole, the whole gives its body
pub match-found : (scope : Scope) (smp : Sample) (v : ℕ) (c : Form) (path : List ℕ) (o : Stm) (xs : List CaseItem) (i : ℕ) (x : CaseItem) → i < length xs → x ≡ get_or xs i x
    → true ≡ some_match scope smp c v (exps_of x.labels.items) → chosen_body scope smp v c (items_of path (drop i xs)) o ≡ chosen_body scope smp v c (items_of path xs) o
    → body_or path xs o (Some i) ≡ chosen_body scope smp v c (items_of path xs) o
match-found scope smp v c path o xs i x l e h k =
    let first = item-chosen scope smp v c path (seen.exps_of x.labels.items) (stm_of path x.body) (items_of path (drop (i + 1) xs)) o (sym h) in
    body-is path xs i x l e ∙ (sym first ∙ (sym (ap (λ z. chosen_body scope smp v c z o) (items-more path xs i x l e)) ∙ k))

pub match-passed : (scope : Scope) (smp : Sample) (v : ℕ) (c : Form) (path : List ℕ) (o z : Stm) (xs : List CaseItem) (i : ℕ) (x : CaseItem) → i < length xs → x ≡ get_or xs i x
    → false ≡ some_match scope smp c v (exps_of x.labels.items) → chosen_body scope smp v c (items_of path (drop i xs)) o ≡ z → chosen_body scope smp v c (items_of path (drop (i + 1) xs)) o ≡ z
match-passed scope smp v c path o z xs i x l e h k =
    let next = item-passed scope smp v c path (seen.exps_of x.labels.items) (stm_of path x.body) (items_of path (drop (i + 1) xs)) o (sym h) in
    sym next ∙ (sym (ap (λ y. chosen_body scope smp v c y o) (items-more path xs i x l e)) ∙ k)

-- the default is the first item without labels
pub default-found : (path : List ℕ) (xs : List CaseItem) (i : ℕ) (x : CaseItem) → i < length xs → x ≡ get_or xs i x → x.labels.items ≡ []
    → default_body (items_of path (drop i xs)) ≡ default_body (items_of path xs) → body_at path xs (Some i) ≡ default_body (items_of path xs)
default-found path xs i x l e h k =
    let first : default_body (plain.item (seen.exps_of x.labels.items) (stm_of path x.body) (items_of path (drop (i + 1) xs))) ≡ stm_of path x.body = rw h refl in
    body-is path xs i x l e ∙ (sym first ∙ (sym (ap default_body (items-more path xs i x l e)) ∙ k))

default-on : (es : List Expr) (a : Stm) (others : Items) → es ≢ [] → default_body (plain.item (seen.exps_of es) a others) ≡ default_body others
default-on [] a others h = absurd (h refl)
default-on (x ∷ xs) a others h = refl

pub default-passed : (path : List ℕ) (z : Stm) (xs : List CaseItem) (i : ℕ) (x : CaseItem) → i < length xs → x ≡ get_or xs i x → x.labels.items ≢ []
    → default_body (items_of path (drop i xs)) ≡ z → default_body (items_of path (drop (i + 1) xs)) ≡ z
default-passed path z xs i x l e h k =
    let next = default-on x.labels.items (stm_of path x.body) (items_of path (drop (i + 1) xs)) h in
    sym next ∙ (sym (ap default_body (items-more path xs i x l e)) ∙ k)

pub none-there : (es : List Expr) (b : Bool) → b ≡ (length es == 0) → b ≡ true → es ≡ []
none-there [] b h k = refl
none-there (x ∷ xs) b h k = absurd (true≢false (sym k ∙ (h ∙ not-zero (length (x ∷ xs)) (λ e. absurd (omega (arith, e))))))

pub some-there : (es : List Expr) (b : Bool) → b ≡ (length es == 0) → b ≡ false → es ≢ []
some-there es b h k = λ e. let n : (length es == 0) ≡ true = rw e refl in let z : ⊥ = cc in absurd z

-- the branch by the program's form and value
pub branch-is : (scope : Scope) (smp : Sample) (e : Exp) (path : List ℕ) (xs : List CaseItem) (f c : Form) (v : ℕ) → f ≡ form scope.names e → c ≡ items_form scope.names f (items_of path xs) → v ≡ value scope smp e c
    → chosen_body scope smp v c (items_of path xs) (default_body (items_of path xs)) ≡ branch_of scope smp (Case e (items_of path xs))
branch-is scope smp e path xs f c v h k l =
    let items = items_of path xs in
    let all = k ∙ ap (λ (z : Form). items_form scope.names z items) h in
    let read = l ∙ ap (value scope smp e) all in
    ap (λ n. chosen_body scope smp n c items (default_body items)) read ∙ ap (λ (z : Form). chosen_body scope smp (value scope smp e (items_form scope.names (form scope.names e) items)) z items (default_body items)) all

-- ---- bits that are compared

pub opened : (w c care : ℕ) → care < 2 ^ w → w ≤ c → (2 ^ c - 1) - (((2 ^ w - 1) - care) % 2 ^ c) ≡ care + (2 ^ c - 2 ^ w)
opened w c care h l =
    let mono : 2 ^ w ≤ 2 ^ c = pow_mono l in
    let small : ((2 ^ w - 1) - care) % 2 ^ c ≡ (2 ^ w - 1) - care = mod-eq_of_lt (omega (arith, mono, h)) in
    rw small (omega (arith, mono, h))

pub ruleset labels = (exps-more, first-sound, form-width)

pub ruleset cares = (opened)

pub ruleset bodies = (labels-sound, body-sound)

pub ruleset branches = (case-items)
