-- The nodes that statements are split into implement them, and a design's table the design.
use Rattle.std.proofs.Common.{◌≡◌, ℕ, ◌+◌, ◌<◌, Bool, true, false, List, [], ◌∷◌, ◌++◌, length, Some, refl, sym, ◌∙◌, ap, subst, arith, append_assoc, append-nil, length-append}
use Rattle.std.specs.Prelude.{◌≢◌, slice_get, if◌then◌else◌}
use Rattle.std.proofs.Math.Seq.{get_or-append_seam}
use Rattle.std.proofs.lemmas.Option.{slice_get-get_or}
use Rattle.vl_design.specs.Syntax.{Stm, Nop, Then, If, Case, For, Repeat, Set, Later, Sys, Items, NoItems, Labelled, Default, Proc, Flat}
use Rattle.vl_design.specs.Queue.{is_init, is_rise, is_fall}
use Rattle.vl_design.specs.Alone.{blocks}
use Rattle.vl_design.specs.Laws.{can_act}
use Rattle.sub_nodes.specs.Nodes.{Segment, still, rising, and_then, Commit, Node, Apply}
use Rattle.sub_nodes.specs.Implements.{Whether, Impl, ImplItems, ImplDefault, Impls, bodies, behind_rise, IsTableOf}
use Rattle.sub_nodes.specs.Code.{HasFrom, Head, head_nodes, Made, before, leading, number, placed, chosen, switching, split, split_items, split_default, split_all, wave_made, wave_nodes, wave_first, fall_nodes, updates, table_of}

pub has_front : (nodes : List Node) (n : ℕ) (a b : List Node) → HasFrom nodes n (a ++ b) → HasFrom nodes n a
has_front nodes n [] b h = tt
has_front nodes n (x ∷ a) b h = (h.0, has_front nodes (n + 1) a b h.1)

pub has_back : (nodes : List Node) (n : ℕ) (a b : List Node) → HasFrom nodes n (a ++ b) → HasFrom nodes (n + length a) b
has_back nodes n [] b h = let e : n ≡ n + 0 = omega arith in subst (λ m. HasFrom nodes m b) e h
has_back nodes n (x ∷ a) b h =
    let e : n + 1 + length a ≡ n + length (x ∷ a) = omega arith in
    subst (λ m. HasFrom nodes m b) e (has_back nodes (n + 1) a b h.1)

has_all : (xs before behind : List Node) → HasFrom (before ++ (xs ++ behind)) (length before) xs
has_all [] before behind = tt
has_all (x ∷ xs) before behind =
    let within : length before < length (before ++ x ∷ (xs ++ behind)) = omega (arith, length-append before (x ∷ (xs ++ behind))) in
    let here = slice_get-get_or (before ++ x ∷ (xs ++ behind)) (length before) x within ∙ ap Some (get_or-append_seam before x (xs ++ behind) x) in
    let n : length (before ++ x ∷ []) ≡ length before + 1 = omega (arith, length-append before (x ∷ [])) in
    let rest = subst (λ l. HasFrom l (length (before ++ x ∷ [])) xs) (append_assoc before (x ∷ []) (xs ++ behind)) (has_all xs (before ++ x ∷ []) behind) in
    (here, subst (λ m. HasFrom (before ++ x ∷ (xs ++ behind)) m xs) n rest)

-- ---- what was made stays

pub either_made : (P : Made → Type 0) (held : Bool) (x y : Made) → P x → P y → P (if held then x else y)
either_made P true x y f g = f
either_made P false x y f g = g

-- E holds of the front of a list of which it holds
module _ (from : ℕ) (E : List Node → Type 0) (front : (a b : List Node) → E (a ++ b) → E a) where
  mutual
    pub earlier : (x : Stm) (m : Made) → E (split from x m).nodes → E m.nodes
    earlier Nop m e = e
    earlier (Then a b) m e = earlier b m (earlier a (split from b m) e)
    earlier (If t a b) m e =
        either_made (λ z. E z.nodes → E m.nodes) (can_act (If t a b)) _ (before (If t a b) m)
        (λ f. (let x = split from a m in let y = split from b (record m { nodes = x.nodes }) in earlier a m (earlier b (record m { nodes = x.nodes }) (front y.nodes _ (front (placed from y.nodes x.head) _ f)))))
        (λ f. f) e
    earlier (Case s items) m e =
        either_made (λ z. E z.nodes → E m.nodes) (can_act (Case s items)) _ (before (Case s items) m)
        (λ f. (let i = split_items from items m in let y = split_default from items (record m { nodes = i.nodes }) in items_earlier items m (default_earlier items (record m { nodes = i.nodes }) (front y.nodes _ f))))
        (λ f. f) e
    earlier (For v start test step a) m e = e
    earlier (Repeat n a) m e = e
    earlier (Set t s) m e = e
    earlier (Later t s) m e = e
    earlier (Sys task) m e = front m.nodes _ e

    pub items_earlier : (items : Items) (m : Made) → E (split_items from items m).nodes → E m.nodes
    items_earlier NoItems m e = e
    items_earlier (Labelled es a others) m e =
        let x = split from a m in
        earlier a m (front x.nodes _ (items_earlier others (record m { nodes = placed from x.nodes x.head }) e))
    items_earlier (Default a others) m e = items_earlier others m e

    pub default_earlier : (items : Items) (m : Made) → E (split_default from items m).nodes → E m.nodes
    default_earlier NoItems m e = e
    default_earlier (Labelled es a others) m e = default_earlier others m e
    default_earlier (Default a others) m e = earlier a m e

  pub all_earlier : (xs : List Stm) (m : Made) → E (split_all from xs m).nodes → E m.nodes
  all_earlier [] m e = e
  all_earlier (x ∷ xs) m e = all_earlier xs m (earlier x (split_all from xs m) e)

-- ---- statements

by_test : {A B : Type 0} (P : Made → Type 0) (held : Bool) (x y : Made) → (P x → A) → (P y → B) → P (if held then x else y) → Whether held A B
by_test P true x y f g h = f h
by_test P false x y f g h = g h

module _ (nodes : List Node) (from : ℕ) where
  -- statements that begin so do what K says, wherever they stand
  abbrev Heads : Head → (Segment → ℕ → Type 0) → Type 0
  Heads h K = (g : Segment) (n : ℕ) → HasFrom nodes n (head_nodes h g n) → K g n

  abbrev Has : List Node → Type 0
  Has xs = HasFrom nodes from xs

  placed_heads : (xs : List Node) (h : Head) (K : Segment → ℕ → Type 0) → Has (placed from xs h) → Heads h K → K still (number from xs)
  placed_heads xs h K e f = f still (number from xs) (has_back nodes from xs (head_nodes h still (number from xs)) e)

  mutual
    split_heads : (x : Stm) (K : Segment → ℕ → Type 0) (m : Made) → Has (split from x m).nodes → Heads m.head K → Heads (split from x m).head (Impl nodes x K)
    split_heads Nop K m e f g n h = f g n h
    split_heads (Then a b) K m e f g n h =
        split_heads a (Impl nodes b K) (split from b m) e (split_heads b K m (earlier from Has (has_front nodes from) a (split from b m) e) f) g n h
    split_heads (If t a b) K m e f g n h =
        let x = split from a m in
        let m' : Made = record m { nodes = x.nodes } in
        let y = split from b m' in
        by_test (λ z. Has z.nodes × HasFrom nodes n (head_nodes z.head g n)) (can_act (If t a b)) (chosen from t x.head y) (before (If t a b) m)
        (λ k. (let first = has_front nodes from (placed from y.nodes x.head) _ k.0 in
        let second = has_front nodes from y.nodes _ first in (
          number from y.nodes,
          number from (placed from y.nodes x.head),
          k.1.0,
          placed_heads y.nodes x.head (Impl nodes a K) first (split_heads a K m (earlier from Has (has_front nodes from) b m' second) f),
          placed_heads (placed from y.nodes x.head) y.head (Impl nodes b K) k.0 (split_heads b K m' second f),
        )))
        (λ k. f (and_then g (If t a b)) n k.1) (e, h)
    split_heads (Case s items) K m e f g n h =
        let i = split_items from items m in
        let m' : Made = record m { nodes = i.nodes } in
        let y = split_default from items m' in
        by_test (λ z. Has z.nodes × HasFrom nodes n (head_nodes z.head g n)) (can_act (Case s items)) (switching from s i.ways y) (before (Case s items) m)
        (λ k. (let first = has_front nodes from y.nodes _ k.0 in (
          i.ways,
          number from y.nodes,
          k.1.0,
          items_head items K m (default_earlier from Has (has_front nodes from) items m' first) f,
          default_heads items K m' (number from y.nodes) first f (has_back nodes from y.nodes _ k.0),
        )))
        (λ k. f (and_then g (Case s items)) n k.1) (e, h)
    split_heads (For v start test step a) K m e f g n h = f (and_then g (For v start test step a)) n h
    split_heads (Repeat k a) K m e f g n h = f (and_then g (Repeat k a)) n h
    split_heads (Set t s) K m e f g n h = f (and_then g (Set t s)) n h
    split_heads (Later t s) K m e f g n h = f (and_then g (Later t s)) n h
    split_heads (Sys task) K m e f g n h = (n + 1, number from m.nodes, h.0, h.1.0, placed_heads m.nodes m.head K e f)

    items_head : (items : Items) (K : Segment → ℕ → Type 0) (m : Made) → Has (split_items from items m).nodes → Heads m.head K → ImplItems nodes items K (split_items from items m).ways
    items_head NoItems K m e f = tt
    items_head (Labelled es a others) K m e f =
        let x = split from a m in
        let m' : Made = record m { nodes = placed from x.nodes x.head } in
        let here = items_earlier from Has (has_front nodes from) others m' e in
        (refl, placed_heads x.nodes x.head (Impl nodes a K) here (split_heads a K m (has_front nodes from x.nodes _ here) f), items_head others K m' e f)
    items_head (Default a others) K m e f = items_head others K m e f

    default_heads : (items : Items) (K : Segment → ℕ → Type 0) (m : Made) (n : ℕ) → Has (split_default from items m).nodes → Heads m.head K
        → HasFrom nodes n (head_nodes (split_default from items m).head still n) → ImplDefault nodes items K n
    default_heads NoItems K m n e f h = f still n h
    default_heads (Labelled es a others) K m n e f h = default_heads others K m n e f h
    default_heads (Default a others) K m n e f h = split_heads a K m e f still n h

  all_head : (u : ℕ) (xs : List Stm) (m : Made) → Has (split_all from xs m).nodes → Heads m.head (Impls nodes u []) → Heads (split_all from xs m).head (Impls nodes u xs)
  all_head u [] m e f = f
  all_head u (x ∷ xs) m e f = split_heads x (Impls nodes u xs) (split_all from xs m) e (all_head u xs m (earlier from Has (has_front nodes from) x (split_all from xs m) e) f)

  pub wave_implements : (u : ℕ) (xs : List Stm) (g : Segment) → Has (wave_nodes from u xs g) → Impls nodes u xs g (wave_first from u xs)
  wave_implements u xs g e =
      let m = wave_made from u xs in
      all_head u xs (leading [] (Commit u)) (has_front nodes from m.nodes _ e) (λ g n h. h.0) g (number from m.nodes) (has_back nodes from m.nodes _ e)

-- ---- a design's table

-- three lists of nodes behind others
pub three : (up : List Node) (a b c : List Node) → (n : ℕ) → n ≡ length up
    → HasFrom (up ++ (a ++ (b ++ c))) n a × HasFrom (up ++ (a ++ (b ++ c))) (n + length a) b × HasFrom (up ++ (a ++ (b ++ c))) (n + length a + length b) c
three up a b c n e =
    let nodes = up ++ (a ++ (b ++ c)) in
    let here : HasFrom nodes (length up) (a ++ (b ++ c)) = subst (λ l. HasFrom (up ++ l) (length up) (a ++ (b ++ c))) (append-nil (a ++ (b ++ c))) (has_all (a ++ (b ++ c)) up []) in
    let all = subst (λ m. HasFrom nodes m (a ++ (b ++ c))) (sym e) here in
    let behind = has_back nodes n a (b ++ c) all in
    (has_front nodes n a (b ++ c) all, has_front nodes (n + length a) b c behind, has_back nodes (n + length a) b c behind)

pub updates_many : (ps : List Proc) (rise fall : ℕ) → length (updates ps 0 0) ≡ length (updates ps rise fall)
updates_many [] rise fall = refl
updates_many (p ∷ ps) rise fall = refl

first_updates : (ps : List Proc) (rise fall : ℕ) (rest : List Node) → slice_get (updates ps rise fall ++ rest) 0 ≡ Some (Apply rise)
first_updates [] rise fall rest = refl
first_updates (p ∷ ps) rise fall rest = refl

rise_updates : (ps : List Proc) (rise fall : ℕ) (rest : List Node) → slice_get (updates ps rise fall ++ rest) 1 ≡ Some (Apply (behind_rise ps rise fall))
rise_updates [] rise fall rest = refl
rise_updates (p ∷ ps) rise fall rest = refl

fall_updates : (ps : List Proc) (rise fall : ℕ) (rest : List Node) → ps ≢ [] → slice_get (updates ps rise fall ++ rest) 2 ≡ Some (Apply rise)
fall_updates [] rise fall rest f = absurd (f refl)
fall_updates (p ∷ ps) rise fall rest f = refl

falls_implement : (nodes : List Node) (from : ℕ) (ps : List Proc) → ps ≢ [] → HasFrom nodes from (fall_nodes from ps) → Impls nodes 2 (bodies ps) still (wave_first from 2 (bodies ps))
falls_implement nodes from [] f h = absurd (f refl)
falls_implement nodes from (p ∷ ps) f h = wave_implements nodes from 2 (bodies (p ∷ ps)) still h

pub table_implements : (d : Flat) → IsTableOf d (table_of d)
table_implements d =
    let T = table_of d in
    let ups = bodies (blocks is_rise d.procs) in
    let falls = blocks is_fall d.procs in
    let inits = bodies (blocks is_init d.procs) in
    let from = length (updates falls 0 0) in
    let rise = T.rise.first in
    let up = wave_nodes from 1 ups rising in
    let fall = T.fall.first in
    let down = fall_nodes (from + length up) falls in
    let first = wave_nodes (from + length up + length down) 0 inits still in
    let has = three (updates falls rise fall) up down first from (updates_many falls rise fall) in
    record {
      zero = record { runs = wave_implements T.nodes (from + length up + length down) 0 inits still has.2; updates = first_updates falls rise fall (up ++ (down ++ first)) };
      rise = record { runs = wave_implements T.nodes from 1 ups rising has.0; updates = rise_updates falls rise fall (up ++ (down ++ first)) };
      fall = λ f. record { runs = falls_implement T.nodes (from + length up) falls f has.1; updates = fall_updates falls rise fall (up ++ (down ++ first)) f };
    }
