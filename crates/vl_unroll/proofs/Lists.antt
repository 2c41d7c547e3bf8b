-- Lists of statements, of items of `case` and of parts of targets, one by one.
use Rattle.std.proofs.Common.{◌≡◌, ◌∙◌, ap, sym, refl, ℕ, zero, suc, ◌+◌, ◌<◌, Bool, true, false, List, [], ◌∷◌, ◌++◌, length, take, get_or, map, replicate, subst}
use Rattle.std.proofs.lemmas.List.{take_more}
use Rattle.std.specs.Prelude.{slice_set, All}
use Rattle.std.specs.List.{AllByRecursion}
use Rattle.std.proofs.lemmas.List.Elements.{All-from_recursion}
use Rattle.std.specs.declared.alloc.Global.{Global}
use Rattle.std.specs.declared.vec.Vec.{Vec}
use Rattle.vl_design.specs.declared.design.Stmt.{Stmt}
use Rattle.vl_design.specs.declared.design.CaseItem.{CaseItem}
use Rattle.vl_design.specs.declared.design.StmtNode as s
use Rattle.vl_design.specs.declared.design.StmtNode.TheBlock as sb
use Rattle.vl_design.specs.declared.design.Target.{Target}
use Rattle.vl_design.specs.declared.design.TargetNode as t
use Rattle.vl_design.specs.declared.design.TargetNode.TheBlock as tb
use Rattle.vl_design.specs.Syntax.{Row, Exp, Stm}
use Rattle.vl_design.specs.Width.{Scope}
use Rattle.vl_design.specs.State.{State}
use Rattle.vl_design.specs.Exec.{exec, goes_on}
use Rattle.vl_design.specs.Placed as p
use Rattle.vl_design.specs.Seen.{exps_of, target_of, node_target, row_targets, stm_of, stms_of, node_stm, row_stms, row_items}
use Rattle.vl_design.proofs.TreeLemmas.{row_stms-items}
use Rattle.vl_loops.specs.Placed.{targets_put, turn_list, copies, stm_unrolled, stms_unrolled, items_unrolled}
use Rattle.vl_loops.proofs.Turning.{map-push}
use Rattle.vl_loops.specs.Heads.{turn_states, AreTurns}
use Rattle.vl_loops.specs.Loops.{HasHeads, HaveHeads, ItemsHaveHeads}
use Rattle.vl_loops.specs.Rooms.{state_of}
use Rattle.vl_unroll.specs.Listed.{target_put_of, stm_unrolled_of, Item, item_of, item_unrolled_of}

-- ---- parts of targets

targets_listed : List p.Target → p.Targets
targets_listed [] = p.NoTargets
targets_listed (x ∷ xs) = p.MoreTargets x (targets_listed xs)

row_targets-items : {m : _} (k : t.Row_of-Target m) → row_targets k ≡ targets_listed (map target_of (t.items-the_row-Target m k))
unfolding targets_listed
row_targets-items t.end_of-Target = refl
row_targets-items (t.more_of-Target q v rest) = ap (p.MoreTargets (node_target q v)) (row_targets-items rest)

row_targets-hidden : (v : Vec Target Global) → row_targets (tb.hidden-the_row-Target-0 v) ≡ targets_listed (map target_of v.items)
row_targets-hidden v = row_targets-items (tb.hidden-the_row-Target-0 v) ∙ ap (λ z. targets_listed (map target_of z)) (t.items_hidden-the_row-Target-0 v)

targets_put-listed : (rows : List Row) (values : List (List ℕ)) (xs : List Target) → targets_put rows values (targets_listed (map target_of xs)) ≡ targets_listed (map (target_put_of rows values) xs)
unfolding targets_listed
targets_put-listed rows values [] = refl
targets_put-listed rows values (x ∷ xs) = ap (p.MoreTargets (target_put_of rows values x)) (targets_put-listed rows values xs)

pub parts-put : (rows : List Row) (values : List (List ℕ)) (v w : Vec Target Global) → map target_of v.items ≡ map (target_put_of rows values) w.items →
    row_targets (tb.hidden-the_row-Target-0 v) ≡ targets_put rows values (row_targets (tb.hidden-the_row-Target-0 w))
parts-put rows values v w h =
    row_targets-hidden v ∙ (ap targets_listed h ∙ (sym (targets_put-listed rows values w.items) ∙ ap (targets_put rows values) (sym (row_targets-hidden w))))

-- ---- statements

stms_listed : List p.Stm → p.Stms
stms_listed [] = p.NoStms
stms_listed (a ∷ as') = p.MoreStms a (stms_listed as')

stms_of-listed : (xs : List Stmt) → stms_of xs ≡ stms_listed (map stm_of xs)
unfolding stms_listed
stms_of-listed [] = refl
stms_of-listed (x ∷ xs) = ap (p.MoreStms (stm_of x)) (stms_of-listed xs)

row_stms-hidden : (v : Vec Stmt Global) → row_stms (sb.hidden-the_row-Stmt-0 v) ≡ stms_of v.items
row_stms-hidden v = row_stms-items (sb.hidden-the_row-Stmt-0 v) ∙ ap stms_of (s.items_hidden-the_row-Stmt-0 v)

row_stms-listed : (v : Vec Stmt Global) → row_stms (sb.hidden-the_row-Stmt-0 v) ≡ stms_listed (map stm_of v.items)
row_stms-listed v = row_stms-hidden v ∙ stms_of-listed v.items

unrolled-listed : (scope : Scope) (e : State) (xs : List Stmt) → stms_unrolled scope (stms_of xs) e ≡ stms_listed (map (stm_unrolled_of scope e) xs)
unfolding stms_listed
unrolled-listed scope e [] = refl
unrolled-listed scope e (x ∷ xs) = ap (p.MoreStms (stm_unrolled_of scope e x)) (unrolled-listed scope e xs)

-- statements one behind another
pub list-unrolled : (scope : Scope) (e : State) (v w : Vec Stmt Global) → map stm_of v.items ≡ map (stm_unrolled_of scope e) w.items →
    row_stms (sb.hidden-the_row-Stmt-0 v) ≡ stms_unrolled scope (row_stms (sb.hidden-the_row-Stmt-0 w)) e
list-unrolled scope e v w h =
    row_stms-listed v ∙ (ap stms_listed h ∙ (sym (unrolled-listed scope e w.items) ∙ ap (λ z. stms_unrolled scope z e) (sym (row_stms-hidden w))))

copies-listed : (n : ℕ) (a : p.Stm) → copies n a ≡ stms_listed (replicate n a)
unfolding stms_listed
copies-listed zero a = refl
copies-listed (suc n) a = ap (p.MoreStms a) (copies-listed n a)

-- a statement so many times
pub list-copies : (n : ℕ) (a : p.Stm) (v : Vec Stmt Global) → map stm_of v.items ≡ replicate n a → row_stms (sb.hidden-the_row-Stmt-0 v) ≡ copies n a
list-copies n a v h = row_stms-listed v ∙ (ap stms_listed h ∙ sym (copies-listed n a))

turns-listed : (test : State → Bool) (step : State → State) (f : State → p.Stm) (n : ℕ) (x : State) → turn_list n test step f x ≡ stms_listed (map f (turn_states n test step x))
unfolding stms_listed turn_states
turns-listed test step f zero x = refl
turns-listed test step f (suc n) x = at (test x) (turns-listed test step f n (step x))
  where
    at : (b : Bool) → turn_list n test step f (step x) ≡ stms_listed (map f (turn_states n test step (step x))) →
        ◌≡◌ {A = p.Stms} (elim b [ true ↦ p.MoreStms (f x) (turn_list n test step f (step x)) | false ↦ p.NoStms ]) (stms_listed (map f (elim b [ true ↦ x ∷ turn_states n test step (step x) | false ↦ [] ])))
    at true h = ap (p.MoreStms (f x)) h
    at false h = refl

map-map : (f : State → p.Stm) (g : ℕ → State) (xs : List ℕ) → map f (map g xs) ≡ map (λ x. f (g x)) xs
map-map f g [] = refl
map-map f g (x ∷ xs) = ap (λ z. f (g x) ∷ z) (map-map f g xs)

-- the turns of a loop, by the numbers of its variable
pub list-turns : (scope : Scope) (test : Exp) (step : Stm) (body : p.Stm) (n : ℕ) (x : State) (ns : List ℕ) (j : ℕ) (vs : List ℕ) (b : Bool) (v : Vec Stmt Global) →
    AreTurns scope test step n x (map (λ u. state_of (slice_set ns j u)) vs) b → map stm_of v.items ≡ map (λ u. stm_unrolled scope body (state_of (slice_set ns j u))) vs →
    row_stms (sb.hidden-the_row-Stmt-0 v) ≡ turn_list n (goes_on scope test) (exec scope step) (stm_unrolled scope body) x
unfolding AreTurns
list-turns scope test step body n x ns j vs b v k h =
    row_stms-listed v
    ∙ (ap stms_listed (h ∙ (sym (map-map (stm_unrolled scope body) (λ u. state_of (slice_set ns j u)) vs) ∙ ap (map (stm_unrolled scope body)) (sym k.0)))
    ∙ sym (turns-listed (goes_on scope test) (exec scope step) (stm_unrolled scope body) n x))

-- ---- items of a case

items_listed : List Item → p.Items
items_listed [] = p.NoItems
items_listed (x ∷ xs) = p.MoreItems x.labels x.body (items_listed xs)

row_items-items : {m : _} (k : s.Row_of-CaseItem m) → row_items k ≡ items_listed (map item_of (s.items-the_row-CaseItem m k))
unfolding items_listed
row_items-items s.end_of-CaseItem = refl
row_items-items (s.more_of-CaseItem labels q v rest) = ap (p.MoreItems (exps_of labels.items) (node_stm q v)) (row_items-items rest)

row_items-listed : (v : Vec CaseItem Global) → row_items (sb.hidden-the_row-CaseItem-1 v) ≡ items_listed (map item_of v.items)
row_items-listed v = row_items-items (sb.hidden-the_row-CaseItem-1 v) ∙ ap (λ z. items_listed (map item_of z)) (s.items_hidden-the_row-CaseItem-1 v)

items-listed : (scope : Scope) (e : State) (xs : List CaseItem) → items_unrolled scope (items_listed (map item_of xs)) e ≡ items_listed (map (item_unrolled_of scope e) xs)
unfolding items_listed
items-listed scope e [] = refl
items-listed scope e (x ∷ xs) = ap (p.MoreItems (item_unrolled_of scope e x).labels (item_unrolled_of scope e x).body) (items-listed scope e xs)

pub list-items : (scope : Scope) (e : State) (v w : Vec CaseItem Global) → map item_of v.items ≡ map (item_unrolled_of scope e) w.items →
    row_items (sb.hidden-the_row-CaseItem-1 v) ≡ items_unrolled scope (row_items (sb.hidden-the_row-CaseItem-1 w)) e
list-items scope e v w h =
    row_items-listed v ∙ (ap items_listed h ∙ (sym (items-listed scope e w.items) ∙ ap (λ z. items_unrolled scope z e) (sym (row_items-listed w))))

-- ---- headers one by one

module _ (rows : List Row) where
  stms-heads : (xs : List Stmt) → HaveHeads rows (stms_of xs) → AllByRecursion (λ x. HasHeads rows (stm_of x)) xs
  stms-heads [] h = tt
  stms-heads (x ∷ xs) h = (h.0, stms-heads xs h.1)

  pub list-heads : (v : Vec Stmt Global) → HaveHeads rows (row_stms (sb.hidden-the_row-Stmt-0 v)) → All (λ x. HasHeads rows (stm_of x)) v.items
  list-heads v h = All-from_recursion (λ x. HasHeads rows (stm_of x)) v.items (stms-heads v.items (subst (HaveHeads rows) (row_stms-hidden v) h))

  items-heads : (xs : List CaseItem) → ItemsHaveHeads rows (items_listed (map item_of xs)) → AllByRecursion (λ x. HasHeads rows (stm_of x.body)) xs
  unfolding items_listed
  items-heads [] h = tt
  items-heads (x ∷ xs) h = (h.0, items-heads xs h.1)

  pub case-heads : (v : Vec CaseItem Global) → ItemsHaveHeads rows (row_items (sb.hidden-the_row-CaseItem-1 v)) → All (λ x. HasHeads rows (stm_of x.body)) v.items
  case-heads v h = All-from_recursion (λ x. HasHeads rows (stm_of x.body)) v.items (items-heads v.items (subst (ItemsHaveHeads rows) (row_items-listed v) h))

-- ---- one statement more

pub map-more : (f : ℕ → p.Stm) (all more : List Stmt) (one : Stmt) (xs : List ℕ) (i : ℕ) → i < length xs → more ≡ all ++ one ∷ [] → map stm_of all ≡ map f (take i xs) → stm_of one ≡ f (get_or xs i 0) →
    map stm_of more ≡ map f (take (i + 1) xs)
map-more f all more one xs i lt m h k =
    ap (map stm_of) m
    ∙ (map-push stm_of all one
    ∙ (ap (λ z. z ++ stm_of one ∷ []) h
    ∙ (ap (λ z. map f (take i xs) ++ z ∷ []) k
    ∙ (sym (map-push f (take i xs) (get_or xs i 0))
    ∙ ap (map f) (sym (take_more xs i 0 lt))))))
