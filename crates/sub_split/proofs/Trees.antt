-- The trees of the program's statements, part by part.
use Rattle.std.proofs.Common.{◌≡◌, ◌<◌, ◌+◌, ℕ, Bool, true, false, List, [], ◌∷◌, length, drop, get_or, Option, Some, refl, sym, ap, ◌∙◌, true≢false}
use Rattle.std.proofs.lemmas.List.{drop_more}
use Rattle.std.proofs.lemmas.Option.{slice_get-get_or}
use Rattle.std.specs.declared.alloc.Global.{Global}
use Rattle.std.specs.declared.boxed.Box.{Box}
use Rattle.std.specs.declared.vec.Vec.{Vec}
use Rattle.vl_design.specs.declared.design.CaseItem.{CaseItem}
use Rattle.vl_design.specs.declared.design.Expr.{Expr}
use Rattle.vl_design.specs.declared.design.Stmt.{Stmt}
use Rattle.vl_design.specs.declared.design.SysCall.{SysCall}
use Rattle.vl_design.specs.declared.design.Target.{Target as TargetCode}
use Rattle.vl_design.specs.declared.design.StmtNode as s
use Rattle.vl_design.specs.declared.design.ExprNode as d
use Rattle.vl_design.specs.vl_base.specs.declared.bits.UnOp.{UnOp}
use Rattle.vl_design.specs.vl_base.specs.declared.place.Place.{Place}
use Rattle.vl_design.specs.vl_base.specs.declared.bits.UnOp.TheVariants.{LogNot}
use Rattle.vl_design.specs.Acts.{default_body}
use Rattle.vl_design.specs.Placed as p
use Rattle.vl_design.specs.Plainly as plain
use Rattle.vl_design.specs.Plainly.{called_first}
use Rattle.vl_design.specs.Seen as seen
use Rattle.vl_design.specs.Syntax.{Stm, Then, If, Case, Set, Later, Sys, Items, Labelled, Default}
use Rattle.vl_design.specs.Trees.{exp_of, exps_of, target_of, stm_of, then_of}
use Rattle.vl_design.proofs.TreeLemmas.{stm_of-Seq}
use Rattle.vl_sites.proofs.Rows as rows
use Rattle.vl_sites.proofs.Rows.{sys-of}
use Rattle.sub_split.specs.Items.{behind_call, body_at, body_of, items_of, is_default, is_not, no_labels}
use Rattle.sub_split.specs.Views.{call_view}

-- ---- statements by what they are

module _ (path : List ℕ) (x : Stmt) where
  pub if-of : (t : Expr) (a b : Box Stmt Global) (first second : Stmt) → x.node ≡ s.If t a b → first ≡ a.value → second ≡ b.value →
      stm_of path x ≡ called_first path (seen.exp_of t) (If (exp_of t) (stm_of path first) (stm_of path second))
  if-of t a b first second h k l =
      ap (λ n. plain.stm path (seen.node_stm x.place n)) h
      ∙ (ap (λ z. called_first path (seen.exp_of t) (If (exp_of t) (stm_of path z) (stm_of path b.value))) (sym k)
      ∙ ap (λ z. called_first path (seen.exp_of t) (If (exp_of t) (stm_of path first) (stm_of path z))) (sym l))

  pub set-of : (t : TargetCode) (e : Expr) → x.node ≡ s.Set t e → stm_of path x ≡ called_first path (seen.exp_of e) (Set (target_of t) (exp_of e))
  set-of t e h = ap (λ n. plain.stm path (seen.node_stm x.place n)) h

  pub later-of : (t : TargetCode) (e : Expr) → x.node ≡ s.Later t e → stm_of path x ≡ called_first path (seen.exp_of e) (Later (target_of t) (exp_of e))
  later-of t e h = ap (λ n. plain.stm path (seen.node_stm x.place n)) h

-- a case has the tree of its items
pub case-of : (path : List ℕ) (x : Stmt) (e : Expr) (v : Vec CaseItem Global) (wild : Bool) (xs : List CaseItem) → x.node ≡ s.Case e v wild → xs ≡ v.items → stm_of path x ≡ Case (exp_of e) (items_of path xs)
case-of path x e v wild xs h k = ap (plain.stm path) (rows.case-of x e v wild h) ∙ ap (λ z. Case (exp_of e) (items_of path z)) (sym k)

-- a block has the tree of its statements
pub list-of : (path : List ℕ) (x : Stmt) (v : Vec Stmt Global) (xs : List Stmt) → x.node ≡ s.Seq v → xs ≡ v.items → stm_of path x ≡ then_of path xs
list-of path x v xs h k = stm_of-Seq path x v h ∙ ap (then_of path) (sym k)

-- ---- calls that come first

pub call-first : (path : List ℕ) (e : Expr) (call : SysCall) → e.node ≡ d.Sys call → (a : Stm) → called_first path (seen.exp_of e) a ≡ Then (Sys (call_view path call)) a
call-first path e call h a = ap (λ z. called_first path z a) (sys-of e call h)

-- also behind one `!`
pub own-first : (path : List ℕ) (at : Place) (e : Expr) (call : SysCall) → e.node ≡ d.Sys call → (a : Stm) → called_first path (p.Un at LogNot (seen.exp_of e)) a ≡ Then (Sys (call_view path call)) a
own-first path at e call h a = ap (λ z. called_first path (p.Un at LogNot z) a) (sys-of e call h)

un-of : (e : Expr) (op : UnOp) (b : Box Expr Global) (x : Expr) → e.node ≡ d.Un op b → x ≡ b.value → seen.exp_of e ≡ p.Un e.place op (seen.exp_of x)
un-of e op b x h v = ap (seen.node_exp e.place) h ∙ ap (λ z. p.Un e.place op (seen.exp_of z)) (sym v)

the-not : (op : UnOp) → is_not op ≡ true → op ≡ LogNot
the-not LogNot h = refl
the-not op h = absurd (true≢false (sym h))

other-first : (path : List ℕ) (at : Place) (op : UnOp) (e : p.Exp) (a : Stm) → is_not op ≡ false → called_first path (p.Un at op e) a ≡ a
other-first path at LogNot e a h = absurd (true≢false h)
other-first path at op e a h = refl

pub not-first : (path : List ℕ) (e : Expr) (op : UnOp) (b : Box Expr Global) (x : Expr) (o : Option SysCall) (a : Stm) → e.node ≡ d.Un op b → is_not op ≡ true → x ≡ b.value →
    called_first path (p.Un e.place LogNot (seen.exp_of x)) a ≡ behind_call path o a → called_first path (seen.exp_of e) a ≡ behind_call path o a
not-first path e op b x o a h k v f =
    ap (λ z. called_first path z a) (un-of e op b x h v) ∙ (ap (λ z. called_first path (p.Un e.place z (seen.exp_of x)) a) (the-not op k) ∙ f)

pub not-other : (path : List ℕ) (e : Expr) (op : UnOp) (b : Box Expr Global) (a : Stm) → e.node ≡ d.Un op b → is_not op ≡ false → called_first path (seen.exp_of e) a ≡ a
not-other path e op b a h k = ap (λ z. called_first path z a) (un-of e op b b.value h refl) ∙ other-first path e.place op (seen.exp_of b.value) a k

-- ---- items one by one

pub items-more : (path : List ℕ) (xs : List CaseItem) (i : ℕ) (x : CaseItem) → i < length xs → x ≡ get_or xs i x →
    items_of path (drop i xs) ≡ plain.item (seen.exps_of x.labels.items) (stm_of path x.body) (items_of path (drop (i + 1) xs))
items-more path xs i x h e = ap (items_of path) (drop_more xs i x h ∙ ap (λ y. y ∷ drop (i + 1) xs) (sym e))

pub item-default : (es : List Expr) (a : Stm) (others : Items) → no_labels es ≡ true → plain.item (seen.exps_of es) a others ≡ Default a others
item-default [] a others h = refl
item-default (x ∷ xs) a others h = absurd (true≢false (sym h))

pub item-labelled : (es : List Expr) (a : Stm) (others : Items) → no_labels es ≡ false → plain.item (seen.exps_of es) a others ≡ Labelled (exps_of es) a others
item-labelled [] a others h = absurd (true≢false h)
item-labelled (x ∷ xs) a others h = refl

-- ---- the default

pub body-is : (path : List ℕ) (xs : List CaseItem) (i : ℕ) (x : CaseItem) → i < length xs → x ≡ get_or xs i x → body_at path xs (Some i) ≡ stm_of path x.body
body-is path xs i x l e = ap (body_of path) (slice_get-get_or xs i x l ∙ ap Some (sym e))

pub default-found : (path : List ℕ) (xs : List CaseItem) (i : ℕ) (x : CaseItem) → i < length xs → x ≡ get_or xs i x → is_default x ≡ true →
    default_body (items_of path (drop i xs)) ≡ default_body (items_of path xs) → body_at path xs (Some i) ≡ default_body (items_of path xs)
default-found path xs i x l e h k =
    body-is path xs i x l e
    ∙ (sym (ap default_body (items-more path xs i x l e ∙ item-default x.labels.items (stm_of path x.body) (items_of path (drop (i + 1) xs)) h)) ∙ k)

pub default-passed : (path : List ℕ) (z : Stm) (xs : List CaseItem) (i : ℕ) (x : CaseItem) → i < length xs → x ≡ get_or xs i x → is_default x ≡ false →
    default_body (items_of path (drop i xs)) ≡ z → default_body (items_of path (drop (i + 1) xs)) ≡ z
default-passed path z xs i x l e h k =
    sym (ap default_body (items-more path xs i x l e ∙ item-labelled x.labels.items (stm_of path x.body) (items_of path (drop (i + 1) xs)) h)) ∙ k
