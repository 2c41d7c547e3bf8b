-- What expressions, left sides and statements do with a name, by their lists.
use Rattle.std.proofs.Common.{◌≡◌, refl, sym, ap, ◌∙◌, ℕ, ◌≤◌, ◌<◌, Bool, false, List, [], ◌∷◌, map, length, get_or, arith}
use Rattle.std.specs.Prelude.{not, ◌&&◌, ◌||◌}
use Rattle.std.specs.List.{list_any}
use Rattle.std.specs.Str.{bytes_eq}
use Rattle.std.specs.declared.alloc.Global.{Global}
use Rattle.std.specs.declared.boxed.Box.{Box}
use Rattle.std.specs.declared.vec.Vec.{Vec}
use Rattle.elab_plain.specs.vl_base.specs.declared.place.Place.{Place}
use Rattle.elab_plain.specs.vl_flat.specs.Surface as x
use Rattle.elab_plain.specs.vl_flat.specs.Statements.{first_name, first_among}
use Rattle.elab_plain.specs.vl_flat.specs.Uses.{uses, some_use, selects_use, args_use, left_uses, lefts_use, left_writes, lefts_write, controls, some_control, items_control, strays, some_stray, items_stray, writes, some_write, items_write}
use Rattle.elab_plain.specs.declared.surface.Ex as e
use Rattle.elab_plain.specs.declared.surface.Select as s
use Rattle.elab_plain.specs.declared.surface.Argument as a
use Rattle.elab_plain.specs.declared.surface.Left as l
use Rattle.elab_plain.specs.declared.surface.Statement as st
use Rattle.elab_plain.specs.declared.surface.CaseItem as c
use Rattle.elab_plain.specs.Seen.{seen, selects_before, args_before}
use Rattle.elab_plain.specs.Listed.{of_list}
use Rattle.elab_plain.specs.SeenStatements.{lefts_of, seen_left, statements_of, seen_statement, items_before}
use Rattle.elab_plain.proofs.Walks.{row_exs-hidden, named-seen, joined-seen, called-seen, system-seen}
use Rattle.elab_plain.proofs.LeftSides.{row_lefts-hidden}
use Rattle.elab_plain.proofs.StatementTrees.{row_statements-hidden, row_items-hidden}
use Rattle.elab_kinds.specs.Parts.{ex_uses, select_uses, argument_uses, target_uses, target_writes, controls_in, strays_in, writes_in, case_controls, case_strays, case_writes}
use Rattle.elab_kinds.proofs.Adding.{or-more, head-body}

-- ---- expressions

exs-any : (t : List ℕ) (es : List e.Ex) → some_use t (of_list (map seen es)) ≡ list_any (ex_uses t) es
exs-any t [] = refl
exs-any t (y ∷ ys) = ap (λ b. ex_uses t y || b) (exs-any t ys)

selects-any : (t : List ℕ) (ss : List s.Select) → selects_use t (selects_before ss x.NoSelects) ≡ list_any (select_uses t) ss
selects-any t [] = refl
selects-any t (s.Index q i ∷ ss) = ap (λ b. uses t (seen i) || b) (selects-any t ss)
selects-any t (s.Range q m l r ∷ ss) =
    ap (λ b. uses t (seen l) || (uses t (seen r) || b)) (selects-any t ss) ∙ or-more (uses t (seen l)) (uses t (seen r)) (list_any (select_uses t) ss)

pub args-any : (t : List ℕ) (as' : List a.Argument) → args_use t (args_before as' x.NoArgs) ≡ list_any (argument_uses t) as'
args-any t [] = refl
args-any t (a.Null ∷ as') = args-any t as'
args-any t (a.Value y ∷ as') = ap (λ b. uses t (seen y) || b) (args-any t as')

pub named-uses : (t : List ℕ) (q : Place) (n : List ℕ) (v : Vec s.Select Global) → ex_uses t (e.Named q n v) ≡ (bytes_eq t n || list_any (select_uses t) v.items)
named-uses t q n v = ap (uses t) (named-seen q n v) ∙ ap (λ b. bytes_eq t n || b) (selects-any t v.items)

pub joined-uses : (t : List ℕ) (q : Place) (v : Vec e.Ex Global) → ex_uses t (e.Joined q v) ≡ list_any (ex_uses t) v.items
joined-uses t q v = ap (uses t) (joined-seen q v) ∙ exs-any t v.items

pub called-uses : (t : List ℕ) (q : Place) (n : List ℕ) (v : Vec e.Ex Global) → ex_uses t (e.Called q n v) ≡ list_any (ex_uses t) v.items
called-uses t q n v = ap (uses t) (called-seen q n v) ∙ exs-any t v.items

pub system-uses : (t : List ℕ) (q : Place) (n : List ℕ) (v : Vec a.Argument Global) → ex_uses t (e.System q n v) ≡ list_any (argument_uses t) v.items
system-uses t q n v = ap (uses t) (system-seen q n v) ∙ args-any t v.items

pub repeated-uses : (t : List ℕ) (q : Place) (n : Box e.Ex Global) (v : Vec e.Ex Global) → ex_uses t (e.Repeated q n v) ≡ (ex_uses t n.value || list_any (ex_uses t) v.items)
repeated-uses t q n v = ap (λ b. ex_uses t n.value || b) (ap (some_use t) (row_exs-hidden v) ∙ exs-any t v.items)

-- ---- left sides

lefts-any : (one : x.Left → Bool) (some : x.Lefts → Bool) → some x.NoLefts ≡ false → ((y : x.Left) (ys : x.Lefts) → some (x.MoreLefts y ys) ≡ (one y || some ys))
    → (ls : List l.Left) → some (lefts_of (map seen_left ls)) ≡ list_any (λ y. one (seen_left y)) ls
lefts-any one some none more [] = none
lefts-any one some none more (y ∷ ys) = more (seen_left y) (lefts_of (map seen_left ys)) ∙ ap (λ b. one (seen_left y) || b) (lefts-any one some none more ys)

pub name-uses : (t : List ℕ) (q : Place) (n : List ℕ) (v : Vec s.Select Global) → target_uses t (l.Name q n v) ≡ (bytes_eq t n || list_any (select_uses t) v.items)
name-uses t q n v = ap (λ b. bytes_eq t n || b) (selects-any t v.items)

pub list-uses : (t : List ℕ) (q : Place) (v : Vec l.Left Global) → target_uses t (l.List q v) ≡ list_any (target_uses t) v.items
list-uses t q v = ap (lefts_use t) (row_lefts-hidden v) ∙ lefts-any (left_uses t) (lefts_use t) refl (λ y ys. refl) v.items

pub list-writes : (t : List ℕ) (q : Place) (v : Vec l.Left Global) → target_writes t (l.List q v) ≡ list_any (target_writes t) v.items
list-writes t q v = ap (lefts_write t) (row_lefts-hidden v) ∙ lefts-any (left_writes t) (lefts_write t) refl (λ y ys. refl) v.items

-- the first name of a list
name-of-list : (q : Place) (v : Vec l.Left Global) (ls : List l.Left) → ls ≡ v.items → first_among (lefts_of (map seen_left ls)) ≡ first_name (seen_left (l.List q v))
name-of-list q v ls e = ap (λ z. first_among (lefts_of (map seen_left z))) e ∙ sym (ap first_among (row_lefts-hidden v))

pub first-of-none : (y : l.Left) (q : Place) (v : Vec l.Left Global) (ls : List l.Left) → y ≡ l.List q v → ls ≡ v.items → length ls < 1 → [] ≡ first_name (seen_left y)
first-of-none y q v ls is e h = empty ls h ∙ (name-of-list q v ls e ∙ sym (ap (λ z. first_name (seen_left z)) is))
  where
    empty : (ls : List l.Left) → length ls < 1 → [] ≡ first_among (lefts_of (map seen_left ls))
    empty [] h = refl
    empty (z ∷ zs) h = absurd (omega (arith, h))

pub first-of-some : (y : l.Left) (q : Place) (v : Vec l.Left Global) (ls : List l.Left) (first : l.Left) → y ≡ l.List q v → ls ≡ v.items → 1 ≤ length ls → first ≡ get_or ls 0 first
    → first_name (seen_left first) ≡ first_name (seen_left y)
first-of-some y q v ls first is e h at = some ls first h at ∙ (name-of-list q v ls e ∙ sym (ap (λ z. first_name (seen_left z)) is))
  where
    some : (ls : List l.Left) (first : l.Left) → 1 ≤ length ls → first ≡ get_or ls 0 first → first_name (seen_left first) ≡ first_among (lefts_of (map seen_left ls))
    some [] first h at = absurd (omega (arith, h))
    some (z ∷ zs) first h at = ap (λ z. first_name (seen_left z)) at

-- ---- statements

statements-any : (one : x.Statement → Bool) (some : x.Statements → Bool) → some x.NoStatements ≡ false → ((y : x.Statement) (ys : x.Statements) → some (x.MoreStatements y ys) ≡ (one y || some ys))
    → (ys : List st.Statement) → some (statements_of (map seen_statement ys)) ≡ list_any (λ y. one (seen_statement y)) ys
statements-any one some none more [] = none
statements-any one some none more (y ∷ ys) =
    more (seen_statement y) (statements_of (map seen_statement ys)) ∙ ap (λ b. one (seen_statement y) || b) (statements-any one some none more ys)

pub block-controls : (t : List ℕ) (q : Place) (v : Vec st.Statement Global) → controls_in t (st.Block q v) ≡ list_any (controls_in t) v.items
block-controls t q v = ap (some_control t) (row_statements-hidden v) ∙ statements-any (controls t) (some_control t) refl (λ y ys. refl) v.items

pub block-strays : (t : List ℕ) (q : Place) (v : Vec st.Statement Global) → strays_in t (st.Block q v) ≡ list_any (strays_in t) v.items
block-strays t q v = ap (some_stray t) (row_statements-hidden v) ∙ statements-any (strays t) (some_stray t) refl (λ y ys. refl) v.items

pub block-writes : (t : List ℕ) (q : Place) (v : Vec st.Statement Global) → writes_in t (st.Block q v) ≡ list_any (writes_in t) v.items
block-writes t q v = ap (some_write t) (row_statements-hidden v) ∙ statements-any (writes t) (some_write t) refl (λ y ys. refl) v.items

items-control : (t : List ℕ) (ys : List c.CaseItem) → items_control t (items_before ys x.NoItems) ≡ list_any (case_controls t) ys
items-control t [] = refl
items-control t (c.Labelled labels y ∷ ys) = ap (λ b. controls_in t y || b) (items-control t ys)
items-control t (c.Default y ∷ ys) = ap (λ b. controls_in t y || b) (items-control t ys)

items-write : (t : List ℕ) (ys : List c.CaseItem) → items_write t (items_before ys x.NoItems) ≡ list_any (case_writes t) ys
items-write t [] = refl
items-write t (c.Labelled labels y ∷ ys) = ap (λ b. writes_in t y || b) (items-write t ys)
items-write t (c.Default y ∷ ys) = ap (λ b. writes_in t y || b) (items-write t ys)

items-stray : (t : List ℕ) (ys : List c.CaseItem) → items_stray t (items_before ys x.NoItems) ≡ list_any (case_strays t) ys
items-stray t [] = refl
items-stray t (c.Labelled labels y ∷ ys) =
    ap (λ b. b || (strays_in t y || items_stray t (items_before ys x.NoItems))) (exs-any t labels.items)
    ∙ (ap (λ b. list_any (ex_uses t) labels.items || (strays_in t y || b)) (items-stray t ys)
    ∙ or-more (list_any (ex_uses t) labels.items) (strays_in t y) (list_any (case_strays t) ys))
items-stray t (c.Default y ∷ ys) = ap (λ b. strays_in t y || b) (items-stray t ys)

pub case-controls : (t : List ℕ) (q : Place) (wild : Bool) (y : e.Ex) (v : Vec c.CaseItem Global) → controls_in t (st.Case q wild y v) ≡ list_any (case_controls t) v.items
case-controls t q wild y v = ap (items_control t) (row_items-hidden v) ∙ items-control t v.items

pub case-writes : (t : List ℕ) (q : Place) (wild : Bool) (y : e.Ex) (v : Vec c.CaseItem Global) → writes_in t (st.Case q wild y v) ≡ list_any (case_writes t) v.items
case-writes t q wild y v = ap (items_write t) (row_items-hidden v) ∙ items-write t v.items

pub case-strays : (t : List ℕ) (q : Place) (wild : Bool) (y : e.Ex) (v : Vec c.CaseItem Global) → strays_in t (st.Case q wild y v) ≡ (ex_uses t y || list_any (case_strays t) v.items)
case-strays t q wild y v = ap (λ b. ex_uses t y || b) (ap (items_stray t) (row_items-hidden v) ∙ items-stray t v.items)

pub task-strays : (t : List ℕ) (q : Place) (n : List ℕ) (v : Vec a.Argument Global) → strays_in t (st.Task q n v) ≡ list_any (argument_uses t) v.items
task-strays t q n v = args-any t v.items

-- a `for`: its name, its head and its body
pub for-strays : (t : List ℕ) (name : List ℕ) (y : st.Statement) (q : Place) (target : l.Left) (start test : e.Ex) (stepped : l.Left) (step : e.Ex) (body : Box st.Statement Global) (inner : st.Statement)
    → name ≡ first_name (seen_left target) → inner ≡ body.value → y ≡ st.For q target start test stepped step body
    → (not (bytes_eq t name) && ((target_uses t target || (ex_uses t start || (ex_uses t test || (target_uses t stepped || ex_uses t step)))) || strays_in t inner)) ≡ strays_in t y
for-strays t name y q target start test stepped step body inner named same is =
    ap (λ z. not (bytes_eq t name) && z) (head-body (target_uses t target) (ex_uses t start) (ex_uses t test) (target_uses t stepped) (ex_uses t step) (strays_in t inner))
    ∙ (ap (λ z. not (bytes_eq t z) && (target_uses t target || (ex_uses t start || (ex_uses t test || (target_uses t stepped || (ex_uses t step || strays_in t inner)))))) named
    ∙ (ap (λ z. not (bytes_eq t (first_name (seen_left target))) && (target_uses t target || (ex_uses t start || (ex_uses t test || (target_uses t stepped || (ex_uses t step || strays_in t z)))))) same
    ∙ sym (ap (strays_in t) is)))
