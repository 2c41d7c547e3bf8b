-- What a ledger keeps where it has more.
use Rattle.std.proofs.Common.{◌≡◌, ℕ, ◌+◌, ◌<◌, ◌≤◌, ◌⊎◌, inl, inr, eqb, Bool, true, false, cond, List, [], ◌∷◌, ◌++◌, length, map, reverse, append-nil, append_assoc, refl, sym, ap, ◌∙◌, subst, arith, Option, Some, None}
use Rattle.std.specs.Prelude.{All, Vec}
use Rattle.std.specs.declared.alloc.Global.{Global}
use Rattle.std.proofs.lemmas.Bool.{eqb-true}
use Rattle.std.proofs.lemmas.List.{map-append, reverse-append}
use Rattle.std.proofs.lemmas.List.Elements.{All-append, All-cons, All-head, All-nil, All-push, All-tail, All-weaker}
use Rattle.fab_core.specs.ten_parcel.specs.Parcels.{number_of, ticks_of}
use Rattle.fab_core.specs.fab_model.specs.declared.transit.Transit.{Transit}
use Rattle.fab_core.specs.fab_model.specs.Tokens.{Token}
use Rattle.fab_rounds.specs.declared.ledgers.Ledger.{Ledger}
use Rattle.fab_orders.specs.declared.outcomes.Answer.{Answer}
use Rattle.fab_orders.specs.declared.outcomes.Cause.{Cause}
use Rattle.fab_orders.specs.declared.outcomes.Finding.{Finding}
use Rattle.fab_orders.specs.declared.outcomes.Order.{Order}
use Rattle.fab_orders.specs.declared.outcomes.Reached.{Reached}
use Rattle.fab_orders.specs.declared.outcomes.Reached.TheVariants as reached
use Rattle.fab_orders.specs.declared.outcomes.Start.{Start}
use Rattle.fab_orders.specs.declared.outcomes.Wanted.{Wanted}
use Rattle.fab_orders.specs.declared.outcomes.Wanted.TheVariants as wanted
use Rattle.fab_orders.specs.Totals.{total}
use Rattle.fab_orders.specs.Orders.{ended_by, found_by, gain_by, loss_by, put_by, ticks_in, ticks_told, AreAbove, IsAbove, IsOrder}
use Rattle.fab_rounds.specs.Ledgers.{ended_at, errands_of, found_there, put_there, reach_in, stop_told, stopped_at, stops_told, transit_sum, AreSoundAnswers, DeskSeatFacts, HasEnded, HasStoppedBy, IsFinding, IsFindingIf, IsKept, IsSound, KeepsBalance}
use Rattle.fab_rounds.specs.Tries.{IsWithin}
use Rattle.fab_orders.proofs.Totals.{total-append}

-- ---- what was told stays true

module _ (starts : List Start) (causes causes' : List Cause) (done done' : List Transit) (e : (t : ℕ) → errands_of t causes ≤ errands_of t causes') (d : (f : Transit → ℕ) → total f done ≤ total f done') where
  more_begun : {A : Type 0} (t : ℕ) → A ⊎ (0 < errands_of t causes) → A ⊎ (0 < errands_of t causes')
  more_begun t (inl a) = inl a
  more_begun t (inr n) = inr (omega (arith, n, e t))

  more_finding : (t k : ℕ) (x : Finding) → IsFinding starts causes t k x → IsFinding starts causes' t k x
  more_finding t k x h = record { number = h.number; ticks = h.ticks; own = h.own; since = h.since; withdrawn = h.withdrawn; begun = λ s. more_begun t (h.begun s) }

  more_if : (t k : ℕ) (x : Option Finding) → IsFindingIf starts causes t k x → IsFindingIf starts causes' t k x
  more_if t k None h = h
  more_if t k (Some x) h = more_finding t k x h

  more_done : (f : Transit → ℕ) → 0 < total f done → 0 < total f done'
  more_done f h = omega (arith, h, d f)

  pub more_sound : (t : ℕ) (w : Wanted) (r : Reached) (x : Option Finding) → IsSound starts causes done t w r x → IsSound starts causes' done' t w r x
  more_sound t (wanted.Move g) (reached.At k) (Some x) h = more_finding t k x h
  more_sound t (wanted.Move g) (reached.At k) None h = h
  more_sound t (wanted.Move g) (reached.Ended k) x h = (more_if t k x h.0, more_done (ended_at t k) h.1)
  more_sound t wanted.Stop (reached.At k) (Some x) h = (more_finding t k x h.0, more_done (stopped_at t k) h.1)
  more_sound t wanted.Stop (reached.At k) None h = h
  more_sound t wanted.Stop (reached.Ended k) x h = (more_if t k x h.0, more_done (ended_at t k) h.1)
  more_sound t (wanted.Save name) (reached.At k) (Some x) h = more_finding t k x h
  more_sound t (wanted.Save name) (reached.At k) None h = h
  more_sound t (wanted.Save name) (reached.Ended k) x h = (more_if t k x h.0, more_done (ended_at t k) h.1)
  more_sound t wanted.Watch (reached.At k) None h = h
  more_sound t wanted.Watch (reached.At k) (Some x) h = h
  more_sound t wanted.Watch (reached.Ended k) x h = h

  pub more_answers : (answers : List Answer) → AreSoundAnswers starts causes done answers → AreSoundAnswers starts causes' done' answers
  more_answers answers h = All-weaker (λ (a : Answer). (a.order.value.tenant < length starts) × IsSound starts causes done a.order.value.tenant a.order.value.wanted a.reached a.finding)
      (λ (a : Answer). (a.order.value.tenant < length starts) × IsSound starts causes' done' a.order.value.tenant a.order.value.wanted a.reached a.finding)
      (λ a s. (s.0, more_sound a.order.value.tenant a.order.value.wanted a.reached a.finding s.1)) answers h

-- ---- with more answers, whoever has ended has ended

more_told : (told told' : List Answer) (t : Transit) → ((n k : ℕ) → stops_told n k told ≤ stops_told n k told') → HasStoppedBy told t → HasStoppedBy told' t
more_told told told' t more (inl a) = inl a
more_told told told' t more (inr b) = inr (b.0, b.1, (let m = b.2 in let n = more (number_of t.parcel) (ticks_of t.parcel) in omega (arith, m, n)))

pub more_ended : (starts : List Start) (told told' : List Answer) → ((n k : ℕ) → stops_told n k told ≤ stops_told n k told') → (t : Transit) → HasEnded starts told t → HasEnded starts told' t
more_ended starts told told' more t h = record { parcel = h.parcel; own = h.own; first = h.first; withdrawn = h.withdrawn; why = more_told told told' t more h.why }

pub stops_more : (told : List Answer) (a : Answer) (n k : ℕ) → stops_told n k told ≤ stops_told n k (told ++ a ∷ [])
stops_more told a n k = omega (arith, total-append (λ (x : Answer). stop_told n k x.order.value.tenant x.order.value.wanted x.reached) told (a ∷ []))

-- ---- one more answer

told-append : (t : ℕ) (xs ys : List Answer) → ticks_told t (xs ++ ys) ≡ ticks_told t xs ++ ticks_told t ys
told-append t [] ys = refl
told-append t (x ∷ xs) ys = let h = ticks_in t x.order.value.tenant x.reached in ap (λ (l : List ℕ). h ++ l) (told-append t xs ys) ∙ sym (append_assoc h (ticks_told t xs) (ticks_told t ys))

within_one : (b : Bool) (k m : ℕ) → (b ≡ true → k ≤ m) → All (λ j. j ≤ m) (cond b (k ∷ []) [])
within_one true k m h = All-cons (λ j. j ≤ m) k [] (h refl) (All-nil (λ j. j ≤ m))
within_one false k m h = All-nil (λ j. j ≤ m)

within : (t u : ℕ) (r : Reached) (reaches : ℕ → ℕ) → IsWithin (reaches u) r → All (λ j. j ≤ reaches t) (ticks_in t u r)
within t u (reached.At k) reaches h = within_one (eqb u t) k (reaches t) (λ e. subst (λ (n : ℕ). k ≤ reaches n) (eqb-true u t e) h)
within t u (reached.Ended k) reaches h = All-nil (λ j. j ≤ reaches t)

above_push : (earlier xs : List Answer) (a : Answer) → AreAbove earlier xs → IsAbove (earlier ++ xs) a.order.value.tenant a.order.value.wanted a.reached → AreAbove earlier (xs ++ a ∷ [])
above_push earlier [] a h i = (subst (λ (l : List Answer). IsAbove l a.order.value.tenant a.order.value.wanted a.reached) (append-nil earlier) i, tt)
above_push earlier (x ∷ xs) a h i = (
  h.0,
  above_push (earlier ++ x ∷ []) xs a h.1 (subst (λ (l : List Answer). IsAbove l a.order.value.tenant a.order.value.wanted a.reached) (sym (append_assoc earlier (x ∷ []) xs)) i),
)

abbrev order_of : Answer → Order
order_of a = a.order.value

module _ (b : Ledger) (k : IsKept b) (o : Order) (a : Answer) (v : Vec DeskSeatFacts Global) (d : Vec Transit Global) (os : Vec Order Global) (told : Vec Answer Global)
    (orders : b.orders.items ≡ os.items ++ o ∷ []) (asks : a.order.value ≡ o) (answers : told.items ≡ b.answers.items ++ a ∷ [])
    (caused : (f : ℕ → Token → ℕ) → total (put_there f) v.items ≡ total (put_there f) b.firsts.items + put_by f a)
    (found : (f : ℕ → Token → ℕ) → total (found_there f) v.items ≡ total (found_there f) b.firsts.items + found_by f a)
    (reaches : (t : ℕ) → reach_in t b.firsts.items ≤ reach_in t v.items) (far : IsWithin (reach_in o.tenant v.items) a.reached) (above : IsAbove b.answers.items o.tenant o.wanted a.reached)
    (more : (Token → ℕ) → ℕ) (hand : (f : Token → ℕ) → transit_sum f d.items ≡ transit_sum f b.done.items + more f) (over : (f : Token → ℕ) → ended_by f a ≤ more f)
    (dones : (f : Transit → ℕ) → total f b.done.items ≤ total f d.items) (ended : All (HasEnded b.loaded.value.items told.items) d.items)
    (sound : IsSound b.loaded.value.items b.causes.items d.items o.tenant o.wanted a.reached a.finding) where
  asked : map order_of told.items ++ reverse os.items ≡ b.asked.value.items
  asked =
      ap (λ (l : List Answer). map order_of l ++ reverse os.items) answers
      ∙ ap (λ (l : List Order). l ++ reverse os.items) (map-append order_of b.answers.items (a ∷ []))
      ∙ append_assoc (map order_of b.answers.items) (a.order.value ∷ []) (reverse os.items)
      ∙ ap (λ (x : Order). map order_of b.answers.items ++ x ∷ reverse os.items) asks
      ∙ ap (λ (l : List Order). map order_of b.answers.items ++ l) (sym (reverse-append os.items (o ∷ [])))
      ∙ ap (λ (l : List Order). map order_of b.answers.items ++ reverse l) (sym orders)
      ∙ k.asked

  ours : All (IsOrder b.labels.value.items b.loaded.value.items) (os.items ++ o ∷ [])
  ours = subst (All (IsOrder b.labels.value.items b.loaded.value.items)) orders k.orders

  waiting : (xs : List Order) → All (IsOrder b.labels.value.items b.loaded.value.items) (xs ++ o ∷ []) → All (IsOrder b.labels.value.items b.loaded.value.items) xs × IsOrder b.labels.value.items b.loaded.value.items o
  waiting [] h = (All-nil (IsOrder b.labels.value.items b.loaded.value.items), All-head (IsOrder b.labels.value.items b.loaded.value.items) o [] h)
  waiting (x ∷ xs) h =
      let r = waiting xs (All-tail (IsOrder b.labels.value.items b.loaded.value.items) x (xs ++ o ∷ []) h) in
      (All-cons (IsOrder b.labels.value.items b.loaded.value.items) x xs (All-head (IsOrder b.labels.value.items b.loaded.value.items) x (xs ++ o ∷ []) h) r.0, r.1)

  far_all : (t : ℕ) → All (λ j. j ≤ reach_in t v.items) (ticks_told t told.items)
  far_all t =
      let old : All (λ j. j ≤ reach_in t v.items) (ticks_told t b.answers.items) = All-weaker (λ j. j ≤ reach_in t b.firsts.items) (λ j. j ≤ reach_in t v.items) (λ j h. omega (arith, h, reaches t)) (ticks_told t b.answers.items) (k.far t) in
      let new : All (λ j. j ≤ reach_in t v.items) (ticks_in t a.order.value.tenant a.reached) =
      within t a.order.value.tenant a.reached (λ n. reach_in n v.items) (subst (λ (x : Order). IsWithin (reach_in x.tenant v.items) a.reached) (sym asks) far) in
      subst (All (λ j. j ≤ reach_in t v.items)) (sym (ap (ticks_told t) answers ∙ told-append t b.answers.items (a ∷ [])))
      (All-append (λ j. j ≤ reach_in t v.items) (ticks_told t b.answers.items) (ticks_in t a.order.value.tenant a.reached ++ []) old
      (subst (All (λ j. j ≤ reach_in t v.items)) (sym (append-nil (ticks_in t a.order.value.tenant a.reached))) new))

  pub answered_kept : IsKept (record b { firsts = v; done = d; orders = os; answers = told })
  answered_kept = record {
    labels = k.labels;
    starts = k.starts;
    moving = k.moving;
    done = ended;
    causes = k.causes;
    caused = λ f. omega (arith, caused f, k.caused f, ap (total (put_by f)) answers, total-append (put_by f) b.answers.items (a ∷ []));
    found = λ f. omega (arith, found f, k.found f, ap (total (found_by f)) answers, total-append (found_by f) b.answers.items (a ∷ []));
    asked = asked;
    orders = (waiting os.items ours).0;
    answers = subst (AreSoundAnswers b.loaded.value.items b.causes.items d.items) (sym answers)
        (All-push (λ (x : Answer). (x.order.value.tenant < length b.loaded.value.items) × IsSound b.loaded.value.items b.causes.items d.items x.order.value.tenant x.order.value.wanted x.reached x.finding) b.answers.items a
        (more_answers b.loaded.value.items b.causes.items b.causes.items b.done.items d.items (λ t. omega arith) dones b.answers.items k.answers)
        (subst (λ (x : Order). (x.tenant < length b.loaded.value.items) × IsSound b.loaded.value.items b.causes.items d.items x.tenant x.wanted a.reached a.finding) (sym asks) ((waiting os.items ours).1.tenant, sound)));
    over = λ f. omega (arith, k.over f, hand f, over f, ap (total (ended_by f)) answers, total-append (ended_by f) b.answers.items (a ∷ []));
    far = far_all;
    watches = subst (AreAbove []) (sym answers) (above_push [] b.answers.items a k.watches (subst (λ (x : Order). IsAbove b.answers.items x.tenant x.wanted a.reached) (sym asks) above));
  }

  pub answered_balance : ((f : Token → ℕ) → found_by (λ h. f) a + gain_by f a ≡ put_by (λ h. f) a + more f + loss_by f a) → KeepsBalance b (record b { firsts = v; done = d; orders = os; answers = told })
  answered_balance even f =
      let p : total (put_there (λ h. f)) v.items ≡ total (put_there (λ h. f)) b.firsts.items + put_by (λ h. f) a = caused (λ h. f) in
      let q : total (found_there (λ h. f)) v.items ≡ total (found_there (λ h. f)) b.firsts.items + found_by (λ h. f) a = found (λ h. f) in
      omega (
        arith,
        p,
        q,
        even f,
        hand f,
        ap (total (gain_by f)) answers,
        total-append (gain_by f) b.answers.items (a ∷ []),
        ap (total (loss_by f)) answers,
        total-append (loss_by f) b.answers.items (a ∷ []),
      )

pub within_more : (r : Reached) (m n : ℕ) → m ≤ n → IsWithin m r → IsWithin n r
within_more (reached.At k) m n l h = omega (arith, l, h)
within_more (reached.Ended k) m n l h = h
