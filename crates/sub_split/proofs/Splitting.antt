-- What is made of a statement part by part.
use Rattle.std.proofs.Common.{◌≡◌, ℕ, ◌<◌, ◌+◌, Bool, true, false, List, [], ◌∷◌, ◌++◌, map, length, drop, get_or, refl, sym, ap, ◌∙◌, subst, true≢false, append_assoc, append-nil, ◌≤◌}
use Rattle.std.specs.Prelude.{◌||◌, if◌then◌else◌}
use Rattle.std.proofs.lemmas.List.{drop_all}
use Rattle.vl_design.specs.declared.design.CaseItem.{CaseItem}
use Rattle.vl_design.specs.declared.design.Stmt.{Stmt}
use Rattle.vl_design.specs.Acts.{default_body}
use Rattle.vl_design.specs.Exec.{asks}
use Rattle.vl_design.specs.Laws.{can_act, items_can_act}
use Rattle.vl_design.specs.Placed as p
use Rattle.vl_design.specs.Plainly as plain
use Rattle.vl_design.specs.Plainly.{called_first}
use Rattle.vl_design.specs.Syntax.{Exp, Stm, If, Case, Items, NoItems, Labelled, Default}
use Rattle.vl_design.specs.Trees.{exps_of, stm_of, then_of}
use Rattle.sub_nodes.specs.Nodes.{Node, Way as WayData}
use Rattle.sub_nodes.specs.Code as c
use Rattle.sub_nodes.specs.Code.{Made, ItemsMade, before, chosen, switching, head_nodes, number, placed, split, split_items, split_default}
use Rattle.sub_split.specs.declared.making.Head.{Head}
use Rattle.sub_split.specs.declared.making.Nodes.{Nodes}
use Rattle.sub_split.specs.declared.table.Way.{Way}
use Rattle.sub_split.specs.Items.{items_of, is_default}
use Rattle.sub_split.specs.Makes.{head_view, nodes_view, made_view, switch, Makes, Splits, SplitsItem, SplitsItems}
use Rattle.sub_split.specs.Marks.{marks_of, item_marks, default_marks}
use Rattle.sub_split.specs.Views.{way_view}
use Rattle.sub_split.proofs.Trees.{items-more, item-default, item-labelled}
use Rattle.sub_split.proofs.Paths.{first-marks, first-acts, first-quiet}
use Rattle.sub_split.proofs.Marking.{default-marks}

-- what has been made, of its parts
abbrev pub with : List Node → c.Head → Made
with nodes h = record { nodes = nodes; head = h }

-- a head behind one statement more
abbrev pub begun : Stm → c.Head → c.Head
begun a h = record { statements = a ∷ h.statements; next = h.next }

-- ---- one after another

-- a block
pub list-splits : (path : List ℕ) (x : Stmt) (xs : List Stmt) (marks after : List Bool) (old new : Nodes) (h : Head) (m : Made) → ((p : List ℕ) → stm_of p x ≡ then_of p xs) → Splits marks after (marks_of (then_of [] xs)) old new h (split old.from (then_of path xs) m)
    → Splits marks after (marks_of (stm_of [] x)) old new h (split old.from (stm_of path x) m)
list-splits path x xs marks after old new h m is f = rw (is [], is path) f

-- ---- choices

-- what a mark says, and what is left of the marks
pub choice-acts : (b r : Bool) (before mid xs rest : List Bool) → ((k : Bool) (left : List Bool) → before ≡ k ∷ left → (r ≡ k) × (mid ≡ left)) → r ≡ true → before ≡ (if b then true ∷ xs else false ∷ []) ++ rest → (b ≡ true) × (mid ≡ xs ++ rest)
choice-acts true r before mid xs rest f t e = (refl, (f true (xs ++ rest) e).1)
choice-acts false r before mid xs rest f t e = absurd (true≢false (sym t ∙ (f false rest e).0))

pub choice-rests : (b r : Bool) (before mid xs rest : List Bool) → ((k : Bool) (left : List Bool) → before ≡ k ∷ left → (r ≡ k) × (mid ≡ left)) → r ≡ false → before ≡ (if b then true ∷ xs else false ∷ []) ++ rest → (b ≡ false) × (mid ≡ rest)
choice-rests true r before mid xs rest f t e = absurd (true≢false (sym (f true (xs ++ rest) e).0 ∙ t))
choice-rests false r before mid xs rest f t e = (refl, (f false rest e).1)

-- ---- the items of a case

pub default-is : (from : ℕ) (items : Items) (m : Made) → split_default from items m ≡ split from (default_body items) m
default-is from NoItems m = refl
default-is from (Labelled es a others) m = default-is from others m
default-is from (Default a others) m = refl

-- what is made of the default
pub default-splits : (path : List ℕ) (xs : List CaseItem) (before after : List Bool) (old new : Nodes) (h : Head) (m : Made) (own body : Stm) → own ≡ default_body (items_of [] xs) → body ≡ default_body (items_of path xs) →
    Splits before after (marks_of own) old new h (split old.from body m) → Splits before after (default_marks (items_of [] xs)) old new h (split_default old.from (items_of path xs) m)
default-splits path xs before after old new h m own body e f x =
    let marks = ap marks_of e ∙ sym (default-marks (items_of [] xs)) in
    let made = ap (λ z. split old.from z m) f ∙ sym (default-is old.from (items_of path xs) m) in
    subst (λ ms. Splits before after ms old new h (split_default old.from (items_of path xs) m)) marks (subst (λ z. Splits before after (marks_of own) old new h z) made x)

pub none-splits : (marks : List Bool) (nodes : Nodes) (h : Head) → Splits marks marks [] nodes nodes h (made_view nodes h)
none-splits marks nodes h = λ rest e. (e, record { from = refl; made = refl })

-- where the rest of the items leads from here, all of them lead
abbrev pub Leads : (path : List ℕ) (xs : List CaseItem) (i : ℕ) (behind : Head) (start marks : List Bool) (old here : Nodes) (all : List Way) → Type 0
Leads path xs i behind start marks old here all =
    (after : List Bool) (new : Nodes) (more : List Way) →
    SplitsItems marks after (item_marks (items_of [] (drop i xs))) here new more (split_items here.from (items_of path (drop i xs)) (made_view here behind)) →
    SplitsItems start after (item_marks (items_of [] xs)) old new (all ++ more) (split_items old.from (items_of path xs) (made_view old behind))

pub leads-passed : (path : List ℕ) (xs : List CaseItem) (i : ℕ) (x : CaseItem) (behind : Head) (start marks : List Bool) (old here : Nodes) (all : List Way) → i < length xs → x ≡ get_or xs i x → is_default x ≡ true →
    Leads path xs i behind start marks old here all → Leads path xs (i + 1) behind start marks old here all
leads-passed path xs i x behind start marks old here all l is d f = λ after new more g.
    let own = items-more [] xs i x l is ∙ item-default x.labels.items (stm_of [] x.body) (items_of [] (drop (i + 1) xs)) d in
    let others = items-more path xs i x l is ∙ item-default x.labels.items (stm_of path x.body) (items_of path (drop (i + 1) xs)) d in
    f after new more (rw (own, others) g)

pub leads-next : (path : List ℕ) (xs : List CaseItem) (i : ℕ) (x : CaseItem) (behind : Head) (start marks mid : List Bool) (old here next : Nodes) (all all' : List Way) (w : Way) → i < length xs → x ≡ get_or xs i x → is_default x ≡ false →
    all' ≡ all ++ w ∷ [] → Leads path xs i behind start marks old here all →
    SplitsItem marks mid (marks_of (stm_of [] x.body)) here next w x.labels.items (split here.from (stm_of path x.body) (made_view here behind)) → Leads path xs (i + 1) behind start mid old next all'
leads-next path xs i x behind start marks mid old here next all all' w l is d joined f y = λ after new more g.
    let own = items-more [] xs i x l is ∙ item-labelled x.labels.items (stm_of [] x.body) (items_of [] (drop (i + 1) xs)) d in
    let others = items-more path xs i x l is ∙ item-labelled x.labels.items (stm_of path x.body) (items_of path (drop (i + 1) xs)) d in
    let step : SplitsItems marks after (item_marks (items_of [] (drop i xs))) here new (w ∷ more) (split_items here.from (items_of path (drop i xs)) (made_view here behind)) = rw (own, others) (one after new more g) in
    subst (λ v. SplitsItems start after (item_marks (items_of [] xs)) old new v (split_items old.from (items_of path xs) (made_view old behind))) (sym (ap (λ v. v ++ more) joined ∙ append_assoc all (w ∷ []) more)) (f after new (w ∷ more) step)
  where
    one : (after : List Bool) (new : Nodes) (more : List Way) → SplitsItems mid after (item_marks (items_of [] (drop (i + 1) xs))) next new more (split_items next.from (items_of path (drop (i + 1) xs)) (made_view next behind)) →
        SplitsItems marks after (item_marks (Labelled (exps_of x.labels.items) (stm_of [] x.body) (items_of [] (drop (i + 1) xs)))) here new (w ∷ more)
        (split_items here.from (Labelled (exps_of x.labels.items) (stm_of path x.body) (items_of path (drop (i + 1) xs))) (made_view here behind))
    one after new more g = λ rest e.
        let o = items_of path (drop (i + 1) xs) in
        let m : Made = split here.from (stm_of path x.body) (made_view here behind) in
        let first = y (item_marks (items_of [] (drop (i + 1) xs)) ++ rest) (e ∙ append_assoc (marks_of (stm_of [] x.body)) (item_marks (items_of [] (drop (i + 1) xs))) rest) in
        let then' = g rest first.0 in
        let same : split_items next.from o (made_view next behind) ≡ split_items here.from o (record { nodes = placed here.from m.nodes m.head; head = head_view behind }) =
        ap (λ f. split_items f o (made_view next behind)) (first.1.from) ∙ ap (λ z. split_items here.from o (with z (head_view behind))) (first.1.nodes) in
        let this : WayData = record { labels = exps_of x.labels.items; to = number here.from m.nodes } in
        let way : way_view w ≡ this = rw (first.1.labels_are, first.1.to) refl in (
          then'.0,
          record {
            from = then'.1.from ∙ first.1.from;
            nodes = then'.1.nodes ∙ ap (λ z. z.nodes) same;
            ways = ap (λ z. z ∷ map way_view more) way ∙ ap (λ ws. this ∷ ws) (then'.1.ways ∙ ap (λ z. z.ways) same);
          },
        )

pub leads-last : (path : List ℕ) (xs : List CaseItem) (i : ℕ) (behind : Head) (start marks : List Bool) (old here : Nodes) (all : List Way) → length xs ≤ i → Leads path xs i behind start marks old here all →
    SplitsItems start marks (item_marks (items_of [] xs)) old here all (split_items old.from (items_of path xs) (made_view old behind))
leads-last path xs i behind start marks old here all l f =
    let none : drop i xs ≡ [] = drop_all i xs l in
    let last : SplitsItems marks marks (item_marks (items_of [] (drop i xs))) here here [] (split_items here.from (items_of path (drop i xs)) (made_view here behind)) =
    rw none (λ rest e. (e, record { from = refl; nodes = refl; ways = refl })) in
    subst (λ v. SplitsItems start marks (item_marks (items_of [] xs)) old here v (split_items old.from (items_of path xs) (made_view old behind))) (append-nil all) (f marks here [] last)

-- ---- statements

module _ (path : List ℕ) (e : p.Exp) where
  -- an assignment, behind the call before it
  pub assign-splits : (marks : List Bool) (old new : Nodes) (g start h : Head) (a x own piece : Stm) → x ≡ called_first path e a → own ≡ called_first [] e a → marks_of a ≡ [] → split old.from a (made_view old g) ≡ before a (made_view old g) →
      (own ≡ called_first [] e a → piece ≡ a) → head_view start ≡ record { statements = piece ∷ (head_view g).statements; next = (head_view g).next } →
      ((b : Stm) (m : Made) → made_view old start ≡ split old.from b m → Makes old new h (split old.from (called_first path e b) m)) → Splits marks marks (marks_of own) old new h (split old.from x (made_view old g))
  assign-splits marks old new g start h a x own piece is same none plain piece-is head k = λ rest u.
      let here : marks_of own ≡ [] = ap marks_of same ∙ (first-marks [] e a ∙ none) in
      let begins = ap (with (nodes_view old)) (head ∙ ap (λ z. begun z (head_view g)) (piece-is same)) ∙ sym plain in
      let made = k a (made_view old g) begins in
      (u ∙ ap (λ z. z ++ rest) here, record { from = made.from; made = made.made ∙ sym (ap (λ z. split old.from z (made_view old g)) is) })

  abbrev t : Exp
  t = plain.exp e

  module _ (marks mid : List Bool) (r : Bool) (next : (k : Bool) (left : List Bool) → marks ≡ k ∷ left → (r ≡ k) × (mid ≡ left)) (a b a' b' x own : Stm) (is : x ≡ called_first path e (If t a b)) (same : own ≡ called_first [] e (If t a' b')) where
    marks-are : marks_of own ≡ (if asks t || (can_act a' || can_act b') then true ∷ (marks_of a' ++ marks_of b') else false ∷ [])
    marks-are = ap marks_of same ∙ first-marks [] e (If t a' b')

    -- a choice that holds a call
    pub if-splits : (mid' after : List Bool) (old here there made new : Nodes) (g copy first second chosen' h : Head) → r ≡ true → can_act a ≡ can_act a' → can_act b ≡ can_act b' → head_view copy ≡ head_view g →
        Splits mid mid' (marks_of a') old here first (split old.from a (made_view old copy)) → Splits mid' after (marks_of b') here there second (split here.from b (made_view here g)) →
        Makes there made chosen' (chosen there.from t (head_view first) (made_view there second)) →
        ((z : Stm) (m : Made) → made_view made chosen' ≡ split made.from z m → Makes made new h (split made.from (called_first path e z) m)) →
        Splits marks after (marks_of own) old new h (split old.from x (made_view old g))
    if-splits mid' after old here there made new g copy first second chosen' h acting ca cb copied f k c' call = λ rest u.
        let m : Made = made_view old g in
        let acts = choice-acts (asks t || (can_act a' || can_act b')) r marks mid (marks_of a' ++ marks_of b') rest next acting (u ∙ ap (λ z. z ++ rest) marks-are) in
        let one = f (marks_of b' ++ rest) (acts.1 ∙ append_assoc (marks_of a') (marks_of b') rest) in
        let two = k rest one.0 in
        let one-made : made_view here first ≡ split old.from a m = one.1.made ∙ ap (λ z. split old.from a (with (nodes_view old) z)) copied in
        let two-made : made_view there second ≡ split old.from b (record m { nodes = (split old.from a m).nodes }) =
        two.1.made ∙ (ap (λ f. split f b (made_view here g)) (one.1.from) ∙ ap (λ (z : Made). split old.from b (with z.nodes (head_view g))) one-made) in
        let from : there.from ≡ old.from = two.1.from ∙ one.1.from in
        let made-from : made.from ≡ old.from = c'.from ∙ from in
        let whole : made_view made chosen' ≡ chosen old.from t (split old.from a m).head (split old.from b (record m { nodes = (split old.from a m).nodes })) =
        c'.made
        ∙ (ap (λ f. chosen f t (head_view first) (made_view there second)) from
        ∙ (ap (λ (z : Made). chosen old.from t z.head (made_view there second)) one-made ∙ ap (chosen old.from t (split old.from a m).head) two-made)) in
        let held : (asks t || (can_act a || can_act b)) ≡ true = rw (ca, cb) (acts.0) in
        let if-made : split old.from (If t a b) m ≡ chosen old.from t (split old.from a m).head (split old.from b (record m { nodes = (split old.from a m).nodes })) = rw held refl in
        let last = call (If t a b) m (whole ∙ (sym if-made ∙ sym (ap (λ f. split f (If t a b) m) made-from))) in
        (two.0, record { from = last.from ∙ made-from; made = last.made ∙ (ap (λ f. split f (called_first path e (If t a b)) m) made-from ∙ sym (ap (λ z. split old.from z m) is)) })

    -- one that holds none
    pub if-rests : (nodes : Nodes) (g h : Head) → r ≡ false → (can_act own ≡ false → x ≡ own) → head_view h ≡ record { statements = own ∷ (head_view g).statements; next = (head_view g).next } →
        Splits marks mid (marks_of own) nodes nodes h (split nodes.from x (made_view nodes g))
    if-rests nodes g h resting alike head = λ rest u.
        let m : Made = made_view nodes g in
        let rests = choice-rests (asks t || (can_act a' || can_act b')) r marks mid (marks_of a' ++ marks_of b') rest next resting (u ∙ ap (λ z. z ++ rest) marks-are) in
        let quiet : can_act own ≡ false = ap can_act same ∙ (first-acts [] e (If t a' b') (λ k. rw k refl) ∙ rests.0) in
        let here : own ≡ If t a' b' = same ∙ first-quiet [] e (If t a' b') (If t a' b') (ap can_act (sym same) ∙ quiet) in
        let plain : split nodes.from (If t a' b') m ≡ before (If t a' b') m = rw (rests.0) refl in
        (rests.1, record { from = refl; made = ap (with (nodes_view nodes)) head ∙ (ap (λ z. before z m) here ∙ (sym plain ∙ sym (ap (λ z. split nodes.from z m) (alike quiet ∙ here)))) })

module _ (marks mid : List Bool) (r : Bool) (next : (k : Bool) (left : List Bool) → marks ≡ k ∷ left → (r ≡ k) × (mid ≡ left)) (e : Exp) (items items' : Items) (x own : Stm) (is : x ≡ Case e items) (same : own ≡ Case e items') where
  pub case-splits : (after : List Bool) (old new : Nodes) (g h : Head) → r ≡ true → items_can_act items ≡ items_can_act items' →
      Splits mid after (item_marks items' ++ default_marks items') old new h (switch old.from e items (made_view old g)) → Splits marks after (marks_of own) old new h (split old.from x (made_view old g))
  case-splits after old new g h acting alike f = λ rest u.
      let m : Made = made_view old g in
      let acts = choice-acts (items_can_act items') r marks mid (item_marks items' ++ default_marks items') rest next acting (u ∙ ap (λ z. marks_of z ++ rest) same) in
      let made = f rest (acts.1) in
      let held : items_can_act items ≡ true = alike ∙ acts.0 in
      let case-made : split old.from (Case e items) m ≡ switch old.from e items m = rw held refl in
      (made.0, record { from = made.1.from; made = made.1.made ∙ (sym case-made ∙ sym (ap (λ z. split old.from z m) is)) })

  pub case-rests : (nodes : Nodes) (g h : Head) → r ≡ false → (can_act own ≡ false → x ≡ own) → head_view h ≡ record { statements = own ∷ (head_view g).statements; next = (head_view g).next } →
      Splits marks mid (marks_of own) nodes nodes h (split nodes.from x (made_view nodes g))
  case-rests nodes g h resting alike head = λ rest u.
      let m : Made = made_view nodes g in
      let rests = choice-rests (items_can_act items') r marks mid (item_marks items' ++ default_marks items') rest next resting (u ∙ ap (λ z. marks_of z ++ rest) same) in
      let quiet : can_act own ≡ false = ap can_act same ∙ rests.0 in
      let plain : split nodes.from (Case e items') m ≡ before (Case e items') m = rw (rests.0) refl in
      (rests.1, record { from = refl; made = ap (with (nodes_view nodes)) head ∙ (ap (λ z. before z m) same ∙ (sym plain ∙ sym (ap (λ z. split nodes.from z m) (alike quiet ∙ same)))) })
