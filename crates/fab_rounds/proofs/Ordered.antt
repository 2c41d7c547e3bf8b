-- What comes of a try, from before it to behind it.
use Rattle.std.proofs.Common.{◌≡◌, ℕ, ◌+◌, ◌<◌, ◌≤◌, Bool, true, false, List, [], ◌∷◌, ◌++◌, length, get_or, eqb, eq-eqb, cond, refl, sym, ap, ◌∙◌, subst, arith, Option, Some, None}
use Rattle.std.specs.Prelude.{◌&&◌, if◌then◌else◌, is_some, All, IfOk, IfSome, MatchOption, Vec, Result, Ok, Err}
use Rattle.std.specs.declared.alloc.AllocError.{AllocError}
use Rattle.std.specs.declared.alloc.Global.{Global}
use Rattle.std.specs.declared.snapshot.Snapshot.{Snapshot}
use Rattle.fab_core.specs.ten_parcel.specs.Parcels.{is_stopped, number_of, run_of, ticks_of}
use Rattle.std.proofs.lemmas.Bool.{false≢true}
use Rattle.std.proofs.lemmas.List.{length-append}
use Rattle.fab_core.specs.vl_design.specs.declared.design.End.{End}
use Rattle.fab_core.specs.vl_design.specs.declared.design.End.TheVariants.{Stopped}
use Rattle.fab_core.specs.vl_design.specs.Alone.{reason_at, Boundary, Ends}
use Rattle.fab_core.specs.vl_design.specs.Queue.{Queue}
use Rattle.fab_core.specs.fab_model.specs.Points.{ended, Point}
use Rattle.fab_core.specs.Standing.{IsPointOf}
use Rattle.std.proofs.lemmas.List.Elements.{All-weaker}
use Rattle.fab_core.specs.fab_model.specs.declared.transit.Transit.{Transit}
use Rattle.fab_core.specs.fab_model.specs.Tokens.{token_of, Token}
use Rattle.fab_rounds.specs.declared.ledgers.Ledger.{Ledger}
use Rattle.fab_rounds.specs.declared.ledgers.Moving.{Moving}
use Rattle.fab_orders.specs.declared.outcomes.Order.{Order}
use Rattle.fab_orders.specs.declared.outcomes.Reached.TheVariants as reached
use Rattle.fab_orders.specs.declared.outcomes.Start.{Start}
use Rattle.fab_orders.specs.declared.outcomes.Wanted.{Wanted}
use Rattle.fab_rounds.specs.declared.seeking.Hit.{Hit}
use Rattle.fab_orders.specs.declared.outcomes.Wanted.TheVariants as wanted
use Rattle.fab_orders.specs.Totals.{total}
use Rattle.fab_orders.specs.Orders.{gain_by, loss_by, ticks_told, IsOrder}
use Rattle.fab_orders.specs.Outcomes.{IsUnended}
use Rattle.fab_rounds.specs.Ledgers.{all_come, all_gone, all_outs, all_puts, ended_at, moving_sum, reach_in, transit_sum, AreAll, AreFirsts, DeskSeatFacts, DeskFacts, HaveBegun, IsKept, IsLedger, Operates}
use Rattle.fab_rounds.specs.Tries.{is_watch, Answers, IsHolding, IsNext, MayTell, Seeks, TakesOut, Tells}
use Rattle.fab_rounds.proofs.Answered.{may_tell_far, BoundaryLaw, EndLaw}
use Rattle.fab_rounds.proofs.Begins.{total_least}
use Rattle.fab_rounds.proofs.Taken.{all_last}
use Rattle.fab_core.specs.vl_design.proofs.Shared.{none_of}

-- ---- a ledger where a tenant was looked for

module _ (desks : List DeskFacts) (l l' : Ledger) (k : IsLedger desks l) (s : Seeks desks l l') where
  sought : IsLedger desks (record l { firsts = l'.firsts })
  sought = record {
    kept = record {
      labels = k.kept.labels;
      starts = k.kept.starts;
      moving = k.kept.moving;
      done = k.kept.done;
      causes = k.kept.causes;
      caused = λ f. s.puts f ∙ k.kept.caused f;
      found = λ f. s.outs f ∙ k.kept.found f;
      asked = k.kept.asked;
      orders = k.kept.orders;
      answers = k.kept.answers;
      over = k.kept.over;
      far = λ t. All-weaker (λ j. j ≤ reach_in t l.firsts.items) (λ j. j ≤ reach_in t l'.firsts.items) (λ j h. let x = s.reach t in omega (arith, h, x)) (ticks_told t l.answers.items) (k.kept.far t);
      watches = k.kept.watches;
    };
    labels = k.labels;
    firsts = s.firsts;
  }

  pub sought_ledger : IsLedger desks l'
  sought_ledger = subst (IsLedger desks) (sym s.rest) sought

  pub sought_come : (f : Token → ℕ) → all_come f l' ≡ all_come f l
  sought_come f =
      let q : all_outs f l' ≡ all_outs f l = s.outs (λ i. f) in
      omega (arith, q, ap (λ (x : Ledger). total (gain_by f) x.answers.items) s.rest)

  pub sought_gone : (f : Token → ℕ) → all_gone f l' ≡ all_gone f l
  sought_gone f =
      let p : all_puts f l' ≡ all_puts f l = s.puts (λ i. f) in
      omega (arith, p, ap (λ (x : Ledger). total (loss_by f) x.answers.items) s.rest, ap (λ (x : Ledger). moving_sum f x.moving.items) s.rest, ap (λ (x : Ledger). transit_sum f x.done.items) s.rest)

pub seeks_same : (desks : List DeskFacts) (l : Ledger) → IsLedger desks l → Seeks desks l (record l { firsts = l.firsts })
seeks_same desks l k = record { rest = refl; firsts = k.firsts; puts = λ f. refl; outs = λ f. refl; reach = λ t. omega arith }

pub seeks_on : (desks : List DeskFacts) (a b c : Ledger) → Seeks desks a b → Seeks desks b c → Seeks desks a c
seeks_on desks a b c s r = record {
  rest = r.rest ∙ ap (λ (x : Ledger). record x { firsts = c.firsts }) s.rest;
  firsts = r.firsts;
  puts = λ f. r.puts f ∙ s.puts f;
  outs = λ f. r.outs f ∙ s.outs f;
  reach = λ t. let x = s.reach t in let y = r.reach t in omega (arith, x, y);
}

-- ---- whole tries

pub operates_same : (desks : List DeskFacts) (l : Ledger) → IsLedger desks l → l.moving.items ≡ [] → Operates desks l l
operates_same desks l k none = record { ledger = k; same = (refl, refl, refl); none = none; balance = λ f. omega arith; reach = λ t. omega arith }

pub operates_on : (desks : List DeskFacts) (a b c : Ledger) → Operates desks a b → Operates desks b c → Operates desks a c
operates_on desks a b c p q = record {
  ledger = q.ledger;
  same = (q.same.0 ∙ p.same.0, q.same.1 ∙ p.same.1, q.same.2 ∙ p.same.2);
  none = q.none;
  balance = λ f. let x = p.balance f in let y = q.balance f in omega (arith, x, y);
  reach = λ t. let x = p.reach t in let y = q.reach t in omega (arith, x, y);
}

pub operates_seeks : (desks : List DeskFacts) (a b : Ledger) → IsLedger desks a → a.moving.items ≡ [] → Seeks desks a b → Operates desks a b
operates_seeks desks a b k none s = record {
  ledger = sought_ledger desks a b k s;
  same = (ap (λ (x : Ledger). x.loaded) s.rest, ap (λ (x : Ledger). x.labels) s.rest, ap (λ (x : Ledger). x.asked) s.rest);
  none = ap (λ (x : Ledger). x.moving.items) s.rest ∙ none;
  balance = λ f. let x = sought_come desks a b k s f in let y = sought_gone desks a b k s f in omega (arith, x, y);
  reach = s.reach;
}

pub tells_ledger : (desks : List DeskFacts) (a b : Ledger) → IsLedger desks a → Tells a b → IsLedger desks b
tells_ledger desks a b k t = record {
  kept = t.kept;
  labels = k.labels ∙ ap (λ x. x.value.items) (sym t.same.1);
  firsts = subst (λ (v : Vec DeskSeatFacts Global). AreFirsts desks v.items) (sym t.firsts) k.firsts;
}

pub operates_tells : (desks : List DeskFacts) (a b : Ledger) → IsLedger desks a → a.moving.items ≡ [] → Tells a b → Operates desks a b
operates_tells desks a b k none t = record {
  ledger = tells_ledger desks a b k t;
  same = t.same;
  none = ap (λ (v : Vec Moving Global). v.items) t.moving ∙ none;
  balance = t.balance;
  reach = λ n. omega (arith, ap (λ (v : Vec DeskSeatFacts Global). reach_in n v.items) t.firsts);
}

-- a tenant was taken out of b, and the next order has its answer
pub operates_answers : (desks : List DeskFacts) (n g : ℕ) (t : Transit) (a b c : Ledger) → IsLedger desks a → a.moving.items ≡ [] → TakesOut desks n g t a b → Answers desks (λ f. f (token_of t)) b c → Operates desks a c
operates_answers desks n g t a b c k none s r = record {
  ledger = r.ledger;
  same = (r.same.0 ∙ ap (λ (x : Ledger). x.loaded) s.rest, r.same.1 ∙ ap (λ (x : Ledger). x.labels) s.rest, r.same.2 ∙ ap (λ (x : Ledger). x.asked) s.rest);
  none = ap (λ (v : Vec Moving Global). v.items) (r.moving ∙ ap (λ (x : Ledger). x.moving) s.rest) ∙ none;
  balance = λ f.
      let p : all_puts f b ≡ all_puts f a = s.puts (λ i. f) in
      let q : all_outs f b ≡ all_outs f a + f (token_of t) = s.outs (λ i. f) in
      let x = r.balance f in
      omega (
        arith,
        x,
        p,
        q,
        ap (λ (y : Ledger). total (gain_by f) y.answers.items) s.rest,
        ap (λ (y : Ledger). total (loss_by f) y.answers.items) s.rest,
        ap (λ (y : Ledger). moving_sum f y.moving.items) s.rest,
        ap (λ (y : Ledger). transit_sum f y.done.items) s.rest,
      );
  reach = λ m. let x = s.reach m in let y = r.reach m in omega (arith, x, y);
}

-- the tenant of the next order was taken out
pub holding : (desks : List DeskFacts) (o : Order) (q : Snapshot Order) (g : ℕ) (t : Transit) (b l : Ledger) (os : Vec Order Global) → q.value ≡ o → IsLedger desks b → TakesOut desks (number_of t.parcel) g t b l → IsNext (number_of t.parcel) false l.orders.items → l.orders.items ≡ os.items ++ o ∷ []
    → IsHolding desks q.value g t (record l { orders = os })
holding desks o q g t b l os asks k takes next popped = subst (λ (x : Order). IsHolding desks x g t (record l { orders = os })) (sym asks) (record {
  before = b;
  out = l;
  ledger = k;
  takes = subst (λ (n : ℕ). TakesOut desks n g t b l) (sym (next.each os.items o popped).0) takes;
  rest = refl;
  orders = popped;
})

if_both : {T E : Type 0} (P Q R : T → Type 0) (r : Result T E) → ((x : T) → P x → Q x → R x) → IfOk r P → IfOk r Q → IfOk r R
if_both P Q R (Ok x) f p q = f x p q
if_both P Q R (Err e) f p q = p

-- where the tenant wasn't found: it had ended, or the order waits
pub operates_missed : (desks : List DeskFacts) (a b c : Ledger) (r : Result Bool AllocError) → IsLedger desks a → a.moving.items ≡ [] → Seeks desks a b → IfOk r (λ x. x ≡ true → Tells b c) → IfOk r (λ x. x ≡ false → c ≡ b) → IfOk r (λ x. Operates desks a c)
operates_missed desks a b c r k none s done waits = if_both (λ x. x ≡ true → Tells b c) (λ x. x ≡ false → c ≡ b) (λ x. Operates desks a c) r by done waits
  where
    first : Operates desks a b
    first = operates_seeks desks a b k none s

    by : (x : Bool) → (x ≡ true → Tells b c) → (x ≡ false → c ≡ b) → Operates desks a c
    by true t w = operates_on desks a b c first (operates_tells desks b c first.ledger first.none (t refl))
    by false t w = subst (Operates desks a) (sym (w refl)) first

-- where it is told
pub operates_told : (desks : List DeskFacts) (a c : Ledger) → IsLedger desks a → a.moving.items ≡ [] → ((l : Ledger) × Seeks desks a l × Tells l c) → Operates desks a c
operates_told desks a c k none h = let first = operates_seeks desks a h.0 k none h.1 in operates_on desks a h.0 c first (operates_tells desks h.0 c first.ledger first.none h.2)

-- where it was found
pub operates_found : (desks : List DeskFacts) (n g : ℕ) (t : Transit) (a b c : Ledger) → IsLedger desks a → a.moving.items ≡ [] → ((l : Ledger) × Seeks desks a l × TakesOut desks n g t l b) → Answers desks (λ f. f (token_of t)) b c → Operates desks a c
operates_found desks n g t a b c k none h r = let first = operates_seeks desks a h.0 k none h.1 in operates_on desks a h.0 c first (operates_answers desks n g t h.0 b c first.ledger first.none h.2 r)

-- with the same tenants all have ended
pub all_still : (l l' : Ledger) → l'.done ≡ l.done → l'.loaded ≡ l.loaded → AreAll (length l.loaded.value.items) l.done.items → AreAll (length l'.loaded.value.items) l'.done.items
all_still l l' d e a = subst (λ (s : Snapshot (Vec Start Global)). AreAll (length s.value.items) l'.done.items) (sym e) (subst (λ (v : Vec Transit Global). AreAll (length l.loaded.value.items) v.items) (sym d) a)

-- an order less waits
pub fewer_left : (desks : List DeskFacts) (a c : Ledger) → ((l : Ledger) × Seeks desks a l × Tells l c) → length c.orders.items < length a.orders.items
fewer_left desks a c h =
    let e = h.2.fewer.1 in
    omega (arith, ap length e, length-append c.orders.items (h.2.fewer.0 ∷ []), ap (λ (x : Ledger). length x.orders.items) h.1.rest)

pub told_done : (desks : List DeskFacts) (a c : Ledger) → ((l : Ledger) × Seeks desks a l × Tells l c) → c.done ≡ a.done
told_done desks a c h = h.2.done ∙ ap (λ (x : Ledger). x.done) h.1.rest

-- ---- the next order

last_of : (xs : List Order) → 0 < length xs → (front : List Order) × (o : Order) × (xs ≡ front ++ o ∷ [])
last_of [] l = absurd (omega (arith, l))
last_of (x ∷ []) l = ([], x, refl)
last_of (x ∷ y ∷ ys) l = let r = last_of (y ∷ ys) (omega arith) in (x ∷ r.0, r.1, ap (λ (zs : List Order). x ∷ zs) r.2)

-- its tenant was loaded
pub next_tenant : (l : Ledger) (t : ℕ) (w : Bool) → IsKept l → IsNext t w l.orders.items → t < length l.loaded.value.items
next_tenant l t w k n =
    let r = last_of l.orders.items n.some in
    let o = all_last (IsOrder l.labels.value.items l.loaded.value.items) r.0 r.1 (subst (All (IsOrder l.labels.value.items l.loaded.value.items)) r.2 k.orders) in
    subst (λ (j : ℕ). j < length l.loaded.value.items) (n.each r.0 r.1 r.2).0 o.tenant

pub next_still : (desks : List DeskFacts) (l l' : Ledger) (t : ℕ) (w : Bool) → Seeks desks l l' → IsNext t w l.orders.items → IsNext t w l'.orders.items
next_still desks l l' t w s n = subst (λ (x : Ledger). IsNext t w x.orders.items) (sym s.rest) n

-- what a watch tells
pub watch_tells : (desks : List DeskFacts) (l l' : Ledger) (t k : ℕ) → IsLedger desks l → HaveBegun l → IsNext t true l.orders.items → Seeks desks l l' → reach_in t l.firsts.items ≤ k → k ≤ reach_in t l'.firsts.items → MayTell (reached.At k) l'
watch_tells desks l l' t k ledger begun next s low high =
    let at = next_tenant l t true ledger.kept next in
    may_tell_far l' t k (sought_ledger desks l l' ledger s).kept (next_still desks l l' t true s next)
    (subst (λ (x : Ledger). (d : Start) → IsUnended (get_or x.loaded.value.items t d).transit.parcel → ticks_of (get_or x.loaded.value.items t d).transit.parcel ≤ k) (sym s.rest) (λ d u. let b = begun t d at u in omega (arith, b, low)))
    (subst (λ (x : Ledger). All (λ j. j ≤ k) (ticks_told t x.answers.items)) (sym s.rest) (All-weaker (λ j. j ≤ reach_in t l.firsts.items) (λ j. j ≤ k) (λ j h. omega (arith, h, low)) (ticks_told t l.answers.items) (ledger.kept.far t)))
    high

one_both : (a b : Bool) → a ≡ true → b ≡ true → ◌≡◌ {A = ℕ} (cond (a && b) 1 0) 1
one_both true true p q = refl
one_both true false p q = let z : ⊥ = cc in absurd z
one_both false b p q = let z : ⊥ = cc in absurd z

pub ended_is : (t k : ℕ) (e : Transit) → number_of e.parcel ≡ t → ticks_of e.parcel ≡ k → ended_at t k e ≡ 1
ended_is t k e n m = one_both (eqb (number_of e.parcel) t) (eqb (ticks_of e.parcel) k) (eq-eqb (number_of e.parcel) t n) (eq-eqb (ticks_of e.parcel) k m)

-- a tenant is among those that have ended
pub ended_there : (done : List Transit) (n t k : ℕ) (e : Transit) → AreAll n done → t < n → k ≡ ticks_of (get_or done t e).parcel → 0 < total (ended_at t k) done
ended_there done n t k e a lt is =
    let c = a.count in
    let l : t < length done = omega (arith, lt, c) in
    let least = total_least (ended_at t k) done t e l in
    let one = ended_is t k (get_or done t e) (a.number t e l) (sym is) in
    omega (arith, least, one)

-- ---- what is asked of what was found

ended_some : (x : Option End) (A : Type 0) (P : End → Queue → Type 0) → is_some x ≡ true → IfSome x (λ e. A → (q : Queue) × P e q) → A → (e : End) × (q : Queue) × P e q
ended_some None A P s h a = let z : ⊥ = cc in absurd z
ended_some (Some e) A P s h a = let r = h a in (e, r.0, r.1)

-- where its run has a reason to end
pub found_ends : (t : Transit) (x : Option End) → is_some x ≡ true → IfSome x (λ e. is_stopped t.parcel ≡ false → (q : Queue) × Ends (run_of t.parcel) (ticks_of t.parcel) e q) → is_stopped t.parcel ≡ false → (e : End) × (q : Queue) × Ends (run_of t.parcel) (ticks_of t.parcel) e q
found_ends t x s h lives = ended_some x (is_stopped t.parcel ≡ false) (λ e q. Ends (run_of t.parcel) (ticks_of t.parcel) e q) s h lives

-- and where it has none
pub found_lives : (t : Transit) (x : Option End) → is_some x ≡ false → ((q : Queue) → Boundary (run_of t.parcel) (ticks_of t.parcel) q → x ≡ (if is_stopped t.parcel then Some Stopped else reason_at (run_of t.parcel).plan (ticks_of t.parcel) q)) → ((p : Point) × IsPointOf t.parcel p)
    → EndLaw → BoundaryLaw → (p : Point) × IsPointOf t.parcel p × (ended p ≡ None)
found_lives t x none reason at told boundary =
    let b = boundary t.parcel at.0 at.1 in
    (at.0, at.1, told t.parcel at.0 b.0 at.1 b.1 ∙ sym (reason b.0 b.1) ∙ none_of x none)

-- ---- what a search for its tenant came to

pub hit_at : (desks : List DeskFacts) (n : ℕ) (a b : Ledger) (r : Option Hit) (x : Hit) → r ≡ Some x → MatchOption r (Seeks desks a b) (λ h. (l : Ledger) × Seeks desks a l × TakesOut desks n h.fabric h.transit l b) → (l : Ledger) × Seeks desks a l × TakesOut desks n x.fabric x.transit l b
hit_at desks n a b r x e m = subst (λ (q : Option Hit). MatchOption q (Seeks desks a b) (λ h. (l : Ledger) × Seeks desks a l × TakesOut desks n h.fabric h.transit l b)) e m

pub miss_at : (desks : List DeskFacts) (n : ℕ) (a b : Ledger) (r : Option Hit) → r ≡ None → MatchOption r (Seeks desks a b) (λ h. (l : Ledger) × Seeks desks a l × TakesOut desks n h.fabric h.transit l b) → Seeks desks a b
miss_at desks n a b r e m = subst (λ (q : Option Hit). MatchOption q (Seeks desks a b) (λ h. (l : Ledger) × Seeks desks a l × TakesOut desks n h.fabric h.transit l b)) e m

pub hit_out : (desks : List DeskFacts) (n g : ℕ) (t : Transit) (a b : Ledger) → IsLedger desks a → ((l : Ledger) × Seeks desks a l × TakesOut desks n g t l b) → (l : Ledger) × IsLedger desks l × TakesOut desks (number_of t.parcel) g t l b
hit_out desks n g t a b k h = (h.0, sought_ledger desks a h.0 k h.1, subst (λ (m : ℕ). TakesOut desks m g t h.0 b) (sym h.2.number) h.2)

pub hit_next : (desks : List DeskFacts) (n g : ℕ) (t : Transit) (a b : Ledger) → ((l : Ledger) × Seeks desks a l × TakesOut desks n g t l b) → IsNext n false a.orders.items → IsNext (number_of t.parcel) false b.orders.items
hit_next desks n g t a b h k = subst (λ (m : ℕ). IsNext m false b.orders.items) (sym h.2.number) (subst (λ (x : Ledger). IsNext n false x.orders.items) (sym h.2.rest) (next_still desks a h.0 n false h.1 k))
