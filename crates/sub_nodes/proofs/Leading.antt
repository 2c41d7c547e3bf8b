-- Where the nodes of a design's table lead, and how many there are.
use Rattle.std.proofs.Common.{◌≡◌, ◌≢◌, ℕ, zero, suc, ◌+◌, ◌*◌, ◌<◌, ◌≤◌, Bool, true, false, List, [], ◌∷◌, ◌++◌, length, Some, refl, sym, subst, arith, length-append, inl, inr}
use Rattle.std.specs.Prelude.{◌||◌, ◌==◌, All, slice_get}
use Rattle.std.specs.List.{list_any}
use Rattle.std.proofs.lemmas.Bool.{eq-eqb, cases_lt}
use Rattle.std.proofs.lemmas.List.Elements.{All-nil, All-cons, All-head, All-tail}
use Rattle.std.proofs.lemmas.Option.{slice_get_within}
use Rattle.vl_design.specs.Syntax.{Stm, Proc, Flat}
use Rattle.vl_design.specs.Queue.{is_init, is_rise, is_fall}
use Rattle.vl_design.specs.Alone.{blocks}
use Rattle.vl_design.proofs.Running.{some_is}
use Rattle.sub_nodes.specs.Nodes.{Segment, still, rising, Go, Branch, Switch, Commit, Node, Run, Trap, Apply}
use Rattle.sub_nodes.specs.Implements.{bodies}
use Rattle.sub_nodes.specs.Code.{HasFrom, Next, Calls, Leads, and_all, next_nodes, head_nodes, number, wave_made, wave_nodes, wave_first, fall_nodes, updates, table_of}
use Rattle.sub_nodes.specs.Shape.{targets, leads_to, IsClosed, all_cuts}
use Rattle.sub_nodes.proofs.Coded.{three, updates_many}
use Rattle.sub_nodes.proofs.Closing.{wave_closed}
use Rattle.sub_nodes.proofs.Counting.{wave_few}
use Rattle.sub_nodes.specs.Early.{next_of, early_from, IsEarly}
use Rattle.sub_nodes.specs.Size.{table_cuts}
use Rattle.vl_design.specs.vl_base.proofs.Booleans.{or_right_true as or_second, or_left_true as or_first}
use Rattle.sub_nodes.proofs.Falling.{next_some}

-- ---- what holds of all that a node leads to

each_one : (P : ℕ → Type 0) (xs : List ℕ) → ((m : ℕ) → list_any (λ k. k == m) xs ≡ true → P m) → All P xs
each_one P [] f = All-nil P
each_one P (x ∷ xs) f =
    All-cons P x xs (f x (or_first (x == x) (list_any (λ k. k == x) xs) (eq-eqb x x refl))) (each_one P xs (λ m h. f m (or_second (x == m) (list_any (λ k. k == m) xs) h)))

pub each_target : (P : ℕ → Type 0) (x : Node) → ((m : ℕ) → leads_to x m ≡ true → P m) → All P (targets x)
each_target P x f = each_one P (targets x) f

-- so it is of what may be next, where it holds of updates and of what stands behind them
pub all_next : (P : ℕ → Type 0) (x : Node) → All P (targets x) → ((to : ℕ) (g : Segment) → x ≡ Run g (Commit to) → P to) → ((to : ℕ) → x ≡ Apply to → P to) → All P (next_of x)
all_next P (Run g (Go to)) f ends ups = f
all_next P (Run g (Branch t a b)) f ends ups = f
all_next P (Run g (Switch e ws o)) f ends ups = f
all_next P (Run g (Commit to)) f ends ups = All-cons P to [] (ends to g refl) (All-nil P)
all_next P (Trap task to) f ends ups = f
all_next P (Apply to) f ends ups = All-cons P to [] (ups to refl) (All-nil P)

-- ---- waves

pub first_within : (n u : ℕ) (xs : List Stm) (g : Segment) → wave_first n u xs < n + length (wave_nodes n u xs g)
first_within n u xs g =
    let m = wave_made n u xs in
    let k = number n m.nodes in
    let len = length-append m.nodes (head_nodes m.head g k) in
    let some = next_some m.head.next (and_all g m.head.statements) k in
    omega (arith, len, some)

falls_within : (n : ℕ) (ps : List Proc) → ps ≢ [] → wave_first n 2 (bodies ps) < n + length (fall_nodes n ps)
falls_within n [] f = absurd (f refl)
falls_within n (p ∷ ps) f = first_within n 2 (bodies (p ∷ ps)) still

pub falls_closed : (nodes : List Node) (n : ℕ) (ps : List Proc) → ps ≢ [] → HasFrom nodes n (fall_nodes n ps) → IsClosed nodes 2 n (n + length (fall_nodes n ps))
falls_closed nodes n [] f h = absurd (f refl)
falls_closed nodes n (p ∷ ps) f h = wave_closed nodes 2 (bodies (p ∷ ps)) still n _ refl h

falls_few : (n : ℕ) (ps : List Proc) → length (fall_nodes n ps) ≤ 2 * all_cuts (bodies ps) + 2
falls_few n [] = omega arith
falls_few n (p ∷ ps) = wave_few n 2 (bodies (p ∷ ps)) still

pub some_falls : (n : ℕ) (ps : List Proc) → 0 < length (fall_nodes n ps) → ps ≢ []
some_falls n [] h e = let z : ⊥ = omega arith in absurd z
some_falls n (p ∷ ps) h e = cc

updates_few : (ps : List Proc) (rise fall : ℕ) → (2 ≤ length (updates ps rise fall)) × (length (updates ps rise fall) ≤ 3)
updates_few [] rise fall = (omega arith, omega arith)
updates_few (p ∷ ps) rise fall = (omega arith, omega arith)

pub updates_next : (P : ℕ → Type 0) (ps : List Proc) (rise fall : ℕ) → P rise → (ps ≢ [] → P fall) → All (λ x. All P (next_of x)) (updates ps rise fall)
updates_next P [] rise fall f g =
    let one : All P (rise ∷ []) = All-cons P rise [] f (All-nil P) in
    let Q : Node → Type 0 = λ x. All P (next_of x) in
    All-cons Q (Apply rise) (Apply rise ∷ []) one (All-cons Q (Apply rise) [] one (All-nil Q))
updates_next P (p ∷ ps) rise fall f g =
    let one : All P (rise ∷ []) = All-cons P rise [] f (All-nil P) in
    let other : All P (fall ∷ []) = All-cons P fall [] (g (λ e. cc)) (All-nil P) in
    let Q : Node → Type 0 = λ x. All P (next_of x) in
    All-cons Q (Apply rise) (Apply fall ∷ Apply rise ∷ []) one (All-cons Q (Apply fall) (Apply rise ∷ []) other (All-cons Q (Apply rise) [] one (All-nil Q)))

pub front_at : (Q : Node → Type 0) (xs ys : List Node) (n : ℕ) (x : Node) → All Q xs → n < length xs → slice_get (xs ++ ys) n ≡ Some x → Q x
front_at Q [] ys n x f h e = let z : ⊥ = omega arith in absurd z
front_at Q (y ∷ xs) ys zero x f h e = subst Q (some_is e) (All-head Q y xs f)
front_at Q (y ∷ xs) ys (suc n) x f h e = let h' : n < length xs = omega arith in front_at Q xs ys n x (All-tail Q y xs f) h' e

-- ---- a design's table

module _ (d : Flat) where
  abbrev pub ups : List Stm
  ups = bodies (blocks is_rise d.procs)

  abbrev pub falls : List Proc
  falls = blocks is_fall d.procs

  abbrev pub inits : List Stm
  inits = bodies (blocks is_init d.procs)

  abbrev pub from : ℕ
  from = length (updates falls 0 0)

  abbrev pub up : List Node
  up = wave_nodes from 1 ups rising

  abbrev pub down : List Node
  down = fall_nodes (from + length up) falls

  abbrev pub first : List Node
  first = wave_nodes (from + length up + length down) 0 inits still

  abbrev pub over : List Node
  over = updates falls (table_of d).rise.first (table_of d).fall.first

  pub record Sizes : Type 0 where
    pub some : 2 ≤ from
    pub few : from ≤ 3
    pub over : length over ≡ from
    pub early : from + length up + length down ≡ early_from d
    pub all : length (table_of d).nodes ≡ early_from d + length first
    pub rise : (table_of d).rise.first < from + length up
    pub fall : falls ≢ [] → (table_of d).fall.first < early_from d
    pub zero : (table_of d).zero.first < length (table_of d).nodes
    pub low : early_from d ≤ (table_of d).zero.first

  many : (xs a b c : List Node) (n : ℕ) → length xs ≡ n → length (xs ++ (a ++ (b ++ c))) ≡ n + length a + length b + length c
  many xs a b c n e =
      let l1 = length-append xs (a ++ (b ++ c)) in
      let l2 = length-append a (b ++ c) in
      let l3 = length-append b c in
      omega (arith, l1, l2, l3)

  above : (n u : ℕ) (xs : List Stm) → n ≤ wave_first n u xs
  above n u xs = omega arith

  pub sizes : Sizes
  sizes =
      let T = table_of d in
      let f = updates_many falls T.rise.first T.fall.first in
      let k = updates_few falls 0 0 in
      let e = many over up down first from (sym f) in
      let z = first_within (early_from d) 0 inits still in
      record {
        some = k.0;
        few = k.1;
        over = sym f;
        early = refl;
        all = e;
        rise = first_within from 1 ups rising;
        fall = λ g. falls_within (from + length up) falls g;
        zero = subst (λ n. T.zero.first < n) (sym e) z;
        low = above (early_from d) 0 inits;
      }

  has : HasFrom (table_of d).nodes from up × HasFrom (table_of d).nodes (from + length up) down × HasFrom (table_of d).nodes (from + length up + length down) first
  has = let T = table_of d in three over up down first from (updates_many falls T.rise.first T.fall.first)

  pub zero_closed : IsClosed (table_of d).nodes 0 (early_from d) (length (table_of d).nodes)
  zero_closed = wave_closed (table_of d).nodes 0 inits still (early_from d) (length (table_of d).nodes) (sym sizes.all) has.2

  pub rise_closed : IsClosed (table_of d).nodes 1 from (from + length up)
  rise_closed = wave_closed (table_of d).nodes 1 ups rising from (from + length up) refl has.0

  pub fall_closed : falls ≢ [] → IsClosed (table_of d).nodes 2 (from + length up) (early_from d)
  fall_closed f = falls_closed (table_of d).nodes (from + length up) falls f has.1

  -- an early node leads to early ones
  pub early_leads : (n : ℕ) (x : Node) → IsEarly d n → slice_get (table_of d).nodes n ≡ Some x → All (IsEarly d) (targets x)
  early_leads n x e h = each_target (IsEarly d) x (λ m t. (zero_closed.inside n m x e (slice_get_within (table_of d).nodes n x h) h t).0)

  pub early_ends : (n to : ℕ) (g : Segment) → IsEarly d n → slice_get (table_of d).nodes n ≡ Some (Run g (Commit to)) → to ≡ 0
  early_ends n to g e h = zero_closed.ends n to g e (slice_get_within (table_of d).nodes n (Run g (Commit to)) h) h

  pub updates_late : (n to : ℕ) → slice_get (table_of d).nodes n ≡ Some (Apply to) → n < early_from d
  updates_late n to h =
      elim (cases_lt n (early_from d)) [ inl l ↦ l | inr e ↦ absurd (zero_closed.none n to e (slice_get_within (table_of d).nodes n (Apply to) h) h) ]

  -- a node of a wave leads to nodes below b
  wave_leads : (u low high b n : ℕ) (x : Node) → IsClosed (table_of d).nodes u low high → high ≤ b → u < b → low ≤ n → n < high → slice_get (table_of d).nodes n ≡ Some x → All (λ m. m < b) (next_of x)
  wave_leads u low high b n x c hb ub l r h =
      all_next (λ m. m < b) x (each_target (λ m. m < b) x (λ m t. (let k = (c.inside n m x l r h t).1 in omega arith)))
      (λ to g e. (let k : to ≡ u = c.ends n to g l r (subst (λ y. slice_get (table_of d).nodes n ≡ Some y) e h) in omega arith))
      (λ to e. absurd (c.none n to l r (subst (λ y. slice_get (table_of d).nodes n ≡ Some y) e h)))

  rise_late : (table_of d).rise.first < early_from d
  rise_late = let s = sizes.rise in let e = sizes.early in omega arith

  over_leads : (n : ℕ) (x : Node) → n < from → slice_get (table_of d).nodes n ≡ Some x → All (λ m. m < early_from d) (next_of x)
  over_leads n x l h =
      let T = table_of d in
      let r : n < length over = (let e = sizes.over in omega arith) in
      front_at (λ y. All (λ m. m < early_from d) (next_of y)) over (up ++ (down ++ first)) n x (updates_next (λ m. m < early_from d) falls T.rise.first T.fall.first rise_late sizes.fall) r h

  fall_leads : (n : ℕ) (x : Node) → from + length up ≤ n → n < early_from d → slice_get (table_of d).nodes n ≡ Some x → All (λ m. m < early_from d) (next_of x)
  fall_leads n x l r h =
      let e = sizes.early in
      let s = sizes.some in
      let some : 0 < length down = omega arith in
      let f = some_falls (from + length up) falls some in
      let k = sizes.rise in
      let two : 2 < early_from d = omega arith in
      wave_leads 2 (from + length up) (early_from d) (early_from d) n x (fall_closed f) (omega arith) two l r h

  -- and one that isn't early never to an early one
  pub late_leads : (n : ℕ) (x : Node) → n < early_from d → slice_get (table_of d).nodes n ≡ Some x → All (λ m. m < early_from d) (next_of x)
  late_leads n x l h =
      let e = sizes.early in
      let s = sizes.some in
      elim (cases_lt n from) [
        | inl a ↦ over_leads n x a h
        | inr a ↦ elim (cases_lt n (from + length up)) [
          | inl b ↦ wave_leads 1 from (from + length up) (early_from d) n x rise_closed (omega arith) (omega arith) a b h
          | inr b ↦ fall_leads n x b l h
        ]
      ]

  below_all : (xs : List ℕ) (a b : ℕ) → a ≤ b → All (λ m. m < a) xs → All (λ m. m < b) xs
  below_all xs a b h f = λ k m l. (let z = f k m l in omega arith)

  pub all_within : (n : ℕ) (x : Node) → slice_get (table_of d).nodes n ≡ Some x → All (λ m. m < length (table_of d).nodes) (next_of x)
  all_within n x h =
      let all = sizes.all in
      let s = sizes.some in
      let e = sizes.early in
      let size = length (table_of d).nodes in
      let r = slice_get_within (table_of d).nodes n x h in
      elim (cases_lt n (early_from d)) [
        | inl l ↦ below_all (next_of x) (early_from d) size (omega arith) (late_leads n x l h)
        | inr l ↦ wave_leads 0 (early_from d) size size n x zero_closed (omega arith) (omega arith) l r h
      ]

  fall_below : (n : ℕ) (ps : List Proc) → wave_first n 2 (bodies ps) ≤ n + length (fall_nodes n ps)
  fall_below n [] = omega arith
  fall_below n (p ∷ ps) = let f = first_within n 2 (bodies (p ∷ ps)) still in omega arith

  pub record FirstsWithin : Type 0 where
    pub zero : (table_of d).zero.first < length (table_of d).nodes
    pub rise : (table_of d).rise.first < length (table_of d).nodes
    pub fall : (table_of d).fall.first < length (table_of d).nodes

  pub firsts_within : FirstsWithin
  firsts_within =
      let all = sizes.all in
      let late = rise_late in
      let some = first_within (early_from d) 0 inits still in
      let low = sizes.low in
      let f : (table_of d).fall.first ≤ early_from d = fall_below (from + length up) falls in
      record { zero = sizes.zero; rise = omega arith; fall = omega arith }

  pub table_few : length (table_of d).nodes ≤ 2 * table_cuts d + 9
  table_few =
      let all = sizes.all in
      let e = sizes.early in
      let few = sizes.few in
      let a = wave_few from 1 ups rising in
      let b = falls_few (from + length up) falls in
      let c = wave_few (from + length up + length down) 0 inits still in
      omega arith

  pub record EarlyFirsts : Type 0 where
    pub zero : IsEarly d (table_of d).zero.first
    pub rise : (table_of d).rise.first < early_from d
    pub fall : falls ≢ [] → (table_of d).fall.first < early_from d

  pub early_firsts : EarlyFirsts
  early_firsts = record { zero = sizes.low; rise = rise_late; fall = sizes.fall }
