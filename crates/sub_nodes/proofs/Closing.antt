-- The nodes of a wave lead to nodes of the wave, and to a trap just the one before it.
use Rattle.std.proofs.Common.{◌≡◌, ◌≢◌, ℕ, ◌+◌, ◌<◌, ◌≤◌, Bool, true, false, List, [], ◌∷◌, ◌++◌, map, length, Some, refl, sym, ◌∙◌, ap, subst, arith, length-append, ◌⊎◌, inl, inr}
use Rattle.std.specs.Prelude.{⊤, ◌||◌, ◌==◌, slice_get}
use Rattle.std.specs.List.{list_any}
use Rattle.std.proofs.lemmas.Bool.{eqb-true, eq-eqb}
use Rattle.vl_design.specs.Syntax.{Exp, Task, Stm, Nop, Then, If, Case, For, Repeat, Set, Later, Sys, Items, NoItems, Labelled, Default, Proc, Flat}
use Rattle.vl_design.specs.Queue.{is_init, is_rise, is_fall}
use Rattle.vl_design.specs.Alone.{blocks}
use Rattle.vl_design.specs.Laws.{can_act}
use Rattle.vl_design.proofs.Running.{some_is}
use Rattle.sub_nodes.specs.Nodes.{Segment, still, rising, Way, WayOn, Go, Branch, Switch, Commit, Node, Run, Trap, Apply}
use Rattle.sub_nodes.specs.Implements.{bodies}
use Rattle.sub_nodes.specs.Code.{HasFrom, Next, Calls, Leads, Head, and_all, next_nodes, head_nodes, Made, before, leading, number, placed, chosen, switching, split, split_items, split_default, split_all, wave_made, wave_nodes, wave_first, fall_nodes, updates, table_of}
use Rattle.sub_nodes.specs.Cycles.{is_trap}
use Rattle.sub_nodes.specs.Shape.{leads_to, IsClosed, IsApart}
use Rattle.sub_nodes.proofs.Coded.{has_front, has_back, either_made, earlier, items_earlier, default_earlier, three, updates_many}
use Rattle.vl_design.specs.vl_base.proofs.Booleans.{or_cases as either_true}
use Rattle.sub_nodes.proofs.Falling.{next_some}

-- ---- nodes that fit into a wave

module _ (nodes : List Node) (u low high : ℕ) where
  -- node m is of the wave, and no trap
  record IsIn (m : ℕ) : Type 0 where
    pub above : low ≤ m
    pub below : m < high
    pub plain : is_trap (slice_get nodes m) ≡ false

  -- node n leads to node m
  record MayLead (n m : ℕ) : Type 0 where
    pub above : low ≤ m
    pub below : m < high
    pub next : is_trap (slice_get nodes m) ≡ true → m ≡ n + 1

  record Fits (n : ℕ) (x : Node) : Type 0 where
    pub leads : (m : ℕ) → leads_to x m ≡ true → MayLead n m
    pub ends : (g : Segment) (to : ℕ) → x ≡ Run g (Commit to) → to ≡ u
    pub none : (to : ℕ) → x ≡ Apply to → ⊥

  in_leads : (n m k : ℕ) → IsIn k → (k == m) ≡ true → MayLead n m
  in_leads n m k i e =
      let same : k ≡ m = eqb-true k m e in
      let j = subst IsIn same i in
      record { above = j.above; below = j.below; next = λ h. (let z : ◌≡◌ true false = sym h ∙ j.plain in let y : ⊥ = cc in absurd y) }

  nobody : (n m : ℕ) → ◌≡◌ false true → MayLead n m
  nobody n m h = let z : ⊥ = cc in absurd z

  one_leads : (n m k : ℕ) → IsIn k → list_any (λ j. j == m) (k ∷ []) ≡ true → MayLead n m
  one_leads n m k i h = elim (either_true (k == m) false h) [ inl e ↦ in_leads n m k i e | inr e ↦ nobody n m e ]

  abbrev AllIn : List Way → Type 0
  AllIn [] = ⊤
  AllIn (w ∷ ws) = IsIn w.to × AllIn ws

  ways_lead : (n m : ℕ) (ws : List Way) → AllIn ws → list_any (λ j. j == m) (map (λ w. w.to) ws) ≡ true → MayLead n m
  ways_lead n m [] i h = nobody n m h
  ways_lead n m (w ∷ ws) i h = elim (either_true (w.to == m) (list_any (λ j. j == m) (map (λ w. w.to) ws)) h) [ inl e ↦ in_leads n m w.to i.0 e | inr e ↦ ways_lead n m ws i.1 e ]

  fits_go : (n : ℕ) (g : Segment) → low ≤ n + 1 → n + 1 < high → Fits n (Run g (Go (n + 1)))
  fits_go n g l r = record {
    leads = λ m h. elim (either_true (n + 1 == m) false h) [ inl e ↦ (let same : n + 1 ≡ m = eqb-true (n + 1) m e in record { above = subst (λ k. low ≤ k) same l; below = subst (λ k. k < high) same r; next = λ t. sym same }) | inr e ↦ nobody n m e ];
    ends = λ s to e. (let z : ⊥ = cc in absurd z);
    none = λ to e. cc;
  }

  fits_branch : (n : ℕ) (g : Segment) (t : Exp) (a b : ℕ) → IsIn a → IsIn b → Fits n (Run g (Branch t a b))
  fits_branch n g t a b i j = record {
    leads = λ m h. elim (either_true (a == m) (list_any (λ k. k == m) (b ∷ [])) h) [ inl e ↦ in_leads n m a i e | inr e ↦ one_leads n m b j e ];
    ends = λ s to e. (let z : ⊥ = cc in absurd z);
    none = λ to e. cc;
  }

  fits_switch : (n : ℕ) (g : Segment) (t : Exp) (ws : List Way) (o : ℕ) → AllIn ws → IsIn o → Fits n (Run g (Switch t ws o))
  fits_switch n g t ws o i j = record {
    leads = λ m h. elim (either_true (o == m) (list_any (λ k. k == m) (map (λ w. w.to) ws)) h) [ inl e ↦ in_leads n m o j e | inr e ↦ ways_lead n m ws i e ];
    ends = λ s to e. (let z : ⊥ = cc in absurd z);
    none = λ to e. cc;
  }

  fits_commit : (n : ℕ) (g : Segment) → Fits n (Run g (Commit u))
  fits_commit n g = record { leads = λ m h. nobody n m h; ends = λ s to e. cc; none = λ to e. cc }

  fits_trap : (n : ℕ) (task : Task) (to : ℕ) → IsIn to → Fits n (Trap task to)
  fits_trap n task to i = record { leads = λ m h. one_leads n m to i h; ends = λ s k e. (let z : ⊥ = cc in absurd z); none = λ k e. cc }

  abbrev AllFit : ℕ → List Node → Type 0
  AllFit n [] = ⊤
  AllFit n (x ∷ xs) = Fits n x × AllFit (n + 1) xs

  fit_both : (n : ℕ) (a b : List Node) → AllFit n a → AllFit (n + length a) b → AllFit n (a ++ b)
  fit_both n [] b f g = let e : n + 0 ≡ n = omega arith in subst (λ m. AllFit m b) e g
  fit_both n (x ∷ a) b f g =
      let e : n + length (x ∷ a) ≡ n + 1 + length a = omega arith in
      (f.0, fit_both (n + 1) a b f.1 (subst (λ m. AllFit m b) e g))

  abbrev NextFits : Next → Type 0
  NextFits (Calls task to) = IsIn to
  NextFits (Leads (Go to)) = ⊥
  NextFits (Leads (Branch t a b)) = IsIn a × IsIn b
  NextFits (Leads (Switch e ws o)) = AllIn ws × IsIn o
  NextFits (Leads (Commit to)) = to ≡ u

  fits_on : (n : ℕ) (g : Segment) (on : WayOn) → NextFits (Leads on) → Fits n (Run g on)
  fits_on n g (Go to) f = absurd f
  fits_on n g (Branch t a b) f = fits_branch n g t a b f.0 f.1
  fits_on n g (Switch e ws o) f = fits_switch n g e ws o f.0 f.1
  fits_on n g (Commit to) f = subst (λ k. Fits n (Run g (Commit k))) (sym f) (fits_commit n g)

  next_fits : (next : Next) (g : Segment) (n : ℕ) → HasFrom nodes n (next_nodes next g n) → low ≤ n → n + length (next_nodes next g n) ≤ high → NextFits next → AllFit n (next_nodes next g n) × IsIn n
  next_fits (Calls task to) g n h l r f =
      let above : low ≤ n + 1 = omega arith in
      let below : n + 1 < high = omega arith in
      let here : n < high = omega arith in
      ((fits_go n g above below, (fits_trap (n + 1) task to f, tt)), record { above = l; below = here; plain = ap is_trap h.0 })
  next_fits (Leads on) g n h l r f = let here : n < high = omega arith in ((fits_on n g on f, tt), record { above = l; below = here; plain = ap is_trap h.0 })

  -- the list stands in the wave
  record Within (xs : List Node) : Type 0 where
    pub stands : HasFrom nodes low xs
    pub short : low + length xs ≤ high

  front : (a b : List Node) → Within (a ++ b) → Within a
  front a b w =
      let len = length-append a b in
      let s = w.short in
      record { stands = has_front nodes low a b w.stands; short = omega (arith, len) }

  head_fits : (xs : List Node) (h : Head) (g : Segment) → Within (xs ++ head_nodes h g (number low xs)) → AllFit low xs → NextFits h.next
      → AllFit low (xs ++ head_nodes h g (number low xs)) × IsIn (number low xs)
  head_fits xs h g w f k =
      let n = number low xs in
      let len = length-append xs (head_nodes h g n) in
      let s = w.short in
      let here : n + length (head_nodes h g n) ≤ high = omega (arith, len) in
      let made = next_fits h.next (and_all g h.statements) n (has_back nodes low xs (head_nodes h g n) w.stands) (omega arith) here k in
      (fit_both low xs (head_nodes h g n) f made.0, made.1)

  place : (xs : List Node) (h : Head) → Within (placed low xs h) → AllFit low xs → NextFits h.next → AllFit low (placed low xs h) × IsIn (number low xs)
  place xs h w f k = head_fits xs h still w f k

  mutual
    split_fits : (x : Stm) (m : Made) → Within (split low x m).nodes → AllFit low m.nodes → NextFits m.head.next → AllFit low (split low x m).nodes × NextFits (split low x m).head.next
    split_fits Nop m w f k = (f, k)
    split_fits (Then a b) m w f k =
        let y = split_fits b m (earlier low Within front a (split low b m) w) f k in
        split_fits a (split low b m) w y.0 y.1
    split_fits (If t a b) m w f k =
        let x = split low a m in
        let m' : Made = record m { nodes = x.nodes } in
        let y = split low b m' in
        either_made (λ z. Within z.nodes → AllFit low z.nodes × NextFits z.head.next) (can_act (If t a b)) (chosen low t x.head y) (before (If t a b) m)
        (λ v. (let v1 = front (placed low y.nodes x.head) _ v in
        let v2 = front y.nodes _ v1 in
        let fx = split_fits a m (earlier low Within front b m' v2) f k in
        let fy = split_fits b m' v2 fx.0 k in
        let p = place y.nodes x.head v1 fy.0 fx.1 in
        let q = place (placed low y.nodes x.head) y.head v p.0 fy.1 in
        (q.0, (p.1, q.1))))
        (λ v. (f, k)) w
    split_fits (Case s items) m w f k =
        let i = split_items low items m in
        let m' : Made = record m { nodes = i.nodes } in
        let y = split_default low items m' in
        either_made (λ z. Within z.nodes → AllFit low z.nodes × NextFits z.head.next) (can_act (Case s items)) (switching low s i.ways y) (before (Case s items) m)
        (λ v. (let v1 = front y.nodes _ v in
        let fi = items_fit items m (default_earlier low Within front items m' v1) f k in
        let fy = default_fits items m' v1 fi.0 k in
        let p = place y.nodes y.head v fy.0 fy.1 in
        (p.0, (fi.1, p.1))))
        (λ v. (f, k)) w
    split_fits (For v start test step a) m w f k = (f, k)
    split_fits (Repeat n a) m w f k = (f, k)
    split_fits (Set t s) m w f k = (f, k)
    split_fits (Later t s) m w f k = (f, k)
    split_fits (Sys task) m w f k = place m.nodes m.head w f k

    items_fit : (items : Items) (m : Made) → Within (split_items low items m).nodes → AllFit low m.nodes → NextFits m.head.next → AllFit low (split_items low items m).nodes × AllIn (split_items low items m).ways
    items_fit NoItems m w f k = (f, tt)
    items_fit (Labelled es a others) m w f k =
        let x = split low a m in
        let m' : Made = record m { nodes = placed low x.nodes x.head } in
        let w1 = items_earlier low Within front others m' w in
        let fx = split_fits a m (front x.nodes _ w1) f k in
        let p = place x.nodes x.head w1 fx.0 fx.1 in
        let r = items_fit others m' w p.0 k in
        (r.0, (p.1, r.1))
    items_fit (Default a others) m w f k = items_fit others m w f k

    default_fits : (items : Items) (m : Made) → Within (split_default low items m).nodes → AllFit low m.nodes → NextFits m.head.next → AllFit low (split_default low items m).nodes × NextFits (split_default low items m).head.next
    default_fits NoItems m w f k = (f, k)
    default_fits (Labelled es a others) m w f k = default_fits others m w f k
    default_fits (Default a others) m w f k = split_fits a m w f k

  all_fit : (xs : List Stm) (m : Made) → Within (split_all low xs m).nodes → AllFit low m.nodes → NextFits m.head.next → AllFit low (split_all low xs m).nodes × NextFits (split_all low xs m).head.next
  all_fit [] m w f k = (f, k)
  all_fit (x ∷ xs) m w f k =
      let y = all_fit xs m (earlier low Within front x (split_all low xs m) w) f k in
      split_fits x (split_all low xs m) w y.0 y.1

  wave_fits : (xs : List Stm) (g : Segment) → Within (wave_nodes low u xs g) → AllFit low (wave_nodes low u xs g)
  wave_fits xs g w =
      let m = wave_made low u xs in
      let y = all_fit xs (leading [] (Commit u)) (front m.nodes _ w) tt refl in
      (head_fits m.nodes m.head g w y.0 y.1).0

  fit_at : (xs : List Node) (n m : ℕ) (x : Node) → HasFrom nodes n xs → AllFit n xs → n ≤ m → m < n + length xs → slice_get nodes m ≡ Some x → Fits m x
  fit_at [] n m x h f l r e = let z : ⊥ = omega arith in absurd z
  fit_at (y ∷ xs) n m x h f l r e = at (n == m) refl (λ k. fit_at xs (n + 1) m x h.1 f.1 k (omega arith) e)
    where
      at : (b : Bool) → (n == m) ≡ b → (n + 1 ≤ m → Fits m x) → Fits m x
      at true t k =
          let same : n ≡ m = eqb-true n m t in
          let z : y ≡ x = some_is (sym h.0 ∙ (ap (slice_get nodes) same ∙ e)) in
          subst (λ k. Fits k x) same (subst (Fits n) z f.0)
      at false t k =
          let other : n ≢ m = λ s. (let y = eq-eqb n m s in cc) in
          k (omega (arith, other))

-- the nodes of a wave are closed
pub wave_closed : (nodes : List Node) (u : ℕ) (xs : List Stm) (g : Segment) (n high : ℕ) → n + length (wave_nodes n u xs g) ≡ high → HasFrom nodes n (wave_nodes n u xs g) → IsClosed nodes u n high
wave_closed nodes u xs g n high e h =
    let all = wave_fits nodes u n high xs g (record { stands = h; short = omega arith }) in
    let at : (m : ℕ) (x : Node) → n ≤ m → m < high → slice_get nodes m ≡ Some x → Fits nodes u n high m x = λ m x l r f. fit_at nodes u n high (wave_nodes n u xs g) n m x h all l (omega arith) f in
    record {
      inside = λ m k x l r f t. (let z = (at m x l r f).leads k t in (z.above, z.below));
      traps = λ m k x l r f t. ((at m x l r f).leads k t).next;
      ends = λ m to s l r f. (at m (Run s (Commit to)) l r f).ends s to refl;
      none = λ m to l r f. (at m (Apply to) l r f).none to refl;
    }

head_some : (h : Head) (g : Segment) (n : ℕ) → 1 ≤ length (head_nodes h g n)
head_some h g n = next_some h.next (and_all g h.statements) n

wave_apart : (nodes : List Node) (u : ℕ) (xs : List Stm) (g : Segment) (n : ℕ) → HasFrom nodes n (wave_nodes n u xs g) → IsApart nodes (record { first = wave_first n u xs; update = u })
wave_apart nodes u xs g n h =
    let m = wave_made n u xs in
    let len = length-append m.nodes (head_nodes m.head g (number n m.nodes)) in
    let some = head_some m.head g (number n m.nodes) in
    record {
      low = n;
      high = n + length (wave_nodes n u xs g);
      above = omega arith;
      below = omega (arith, len, some);
      closed = wave_closed nodes u xs g n _ refl h;
    }

falls_apart : (nodes : List Node) (n : ℕ) (ps : List Proc) → ps ≢ [] → HasFrom nodes n (fall_nodes n ps) → IsApart nodes (record { first = wave_first n 2 (bodies ps); update = 2 })
falls_apart nodes n [] f h = absurd (f refl)
falls_apart nodes n (p ∷ ps) f h = wave_apart nodes 2 (bodies (p ∷ ps)) still n h

pub record TableApart (d : Flat) : Type 0 where
  pub zero : IsApart (table_of d).nodes (table_of d).zero
  pub rise : IsApart (table_of d).nodes (table_of d).rise
  pub fall : blocks is_fall d.procs ≢ [] → IsApart (table_of d).nodes (table_of d).fall

pub table_apart : (d : Flat) → TableApart d
table_apart d =
    let T = table_of d in
    let ups = bodies (blocks is_rise d.procs) in
    let falls = blocks is_fall d.procs in
    let inits = bodies (blocks is_init d.procs) in
    let from = length (updates falls 0 0) in
    let up = wave_nodes from 1 ups rising in
    let down = fall_nodes (from + length up) falls in
    let first = wave_nodes (from + length up + length down) 0 inits still in
    let has = three (updates falls T.rise.first T.fall.first) up down first from (updates_many falls T.rise.first T.fall.first) in
    record {
      zero = wave_apart T.nodes 0 inits still (from + length up + length down) has.2;
      rise = wave_apart T.nodes 1 ups rising from has.0;
      fall = λ f. falls_apart T.nodes (from + length up) falls f has.1;
    }
