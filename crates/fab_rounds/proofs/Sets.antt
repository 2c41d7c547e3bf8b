-- A first seat in place of another one.
use Rattle.std.proofs.Common.{◌≡◌, ℕ, ◌+◌, ◌<◌, ◌≤◌, List, length, get_or, set, length-set, get_or-set_same, get_or-set_other, sym, ap, ◌∙◌, subst, arith}
use mathlib.Core.Logic.{dite}
use native.Mathlib.Decide.{ℕ_discrete}
use Rattle.std.proofs.lemmas.List.{get_or_default}
use Rattle.fab_core.specs.fab_model.specs.Tokens.{Token}
use Rattle.fab_orders.specs.Totals.{total}
use Rattle.fab_rounds.specs.Ledgers.{fabric_in, found_there, put_there, reach, reach_in, seat_outs, seat_puts, AreFirsts, DeskSeatFacts, DeskFacts, IsFirst}
use Rattle.fab_rounds.proofs.Reach.{reach_at, reach_set}
use Rattle.fab_orders.proofs.Totals.{total-set}

module _ (desks : List DeskFacts) (seats : List DeskSeatFacts) (firsts : AreFirsts desks seats) (i : ℕ) (desk : DeskFacts) (is : desk ≡ get_or desks i desk) (lt : i < length desks) (fabric : desk.label.fabric ≡ i)
    (old seat : DeskSeatFacts) (was : old ≡ get_or seats i old) (first : IsFirst desk seat) where
  pub long : i < length seats
  long = let b = firsts.count in omega (arith, lt, b)

  pub old_first : IsFirst desk old
  old_first = subst (λ (d : DeskFacts). IsFirst d old) (sym is) (subst (IsFirst (get_or desks i desk)) (sym was) (firsts.each i desk old lt))

  fabric_is : (s : DeskSeatFacts) → IsFirst desk s → fabric_in s.view.label ≡ i
  fabric_is s f = ap fabric_in f.0.1 ∙ fabric

  pub set_firsts : AreFirsts desks (set seats i seat)
  set_firsts = record {
    count = length-set seats i seat ∙ firsts.count;
    each = λ j d s l. dite (ℕ_discrete j i)
        (λ same. let eq : get_or (set seats i seat) j s ≡ seat = ap (λ k. get_or (set seats i seat) k s) same ∙ get_or-set_same seats i seat s long in
        let dq : get_or desks j d ≡ desk = ap (λ k. get_or desks k d) same ∙ get_or_default desks i d desk lt ∙ sym is in
        subst (λ (x : DeskFacts). IsFirst x (get_or (set seats i seat) j s)) (sym dq) (subst (IsFirst desk) (sym eq) first))
        (λ other. subst (IsFirst (get_or desks j d)) (sym (get_or-set_other seats i j seat s other)) (firsts.each j d s l));
  }

  pub set_puts : (more : (Token → ℕ) → ℕ) → ((f : Token → ℕ) → seat_puts f seat ≡ seat_puts f old + more f) → (f : ℕ → Token → ℕ) → total (put_there f) (set seats i seat) ≡ total (put_there f) seats + more (f i)
  set_puts more puts f = omega (
    arith,
    total-set (put_there f) seats i seat old long,
    ap (put_there f) was,
    ap (λ (n : ℕ). seat_puts (f n) seat) (fabric_is seat first),
    ap (λ (n : ℕ). seat_puts (f n) old) (fabric_is old old_first),
    puts (f i),
  )

  pub set_outs : (more : (Token → ℕ) → ℕ) → ((f : Token → ℕ) → seat_outs f seat ≡ seat_outs f old + more f) → (f : ℕ → Token → ℕ) → total (found_there f) (set seats i seat) ≡ total (found_there f) seats + more (f i)
  set_outs more outs f = omega (
    arith,
    total-set (found_there f) seats i seat old long,
    ap (found_there f) was,
    ap (λ (n : ℕ). seat_outs (f n) seat) (fabric_is seat first),
    ap (λ (n : ℕ). seat_outs (f n) old) (fabric_is old old_first),
    outs (f i),
  )

  pub set_reach : ((t : ℕ) → reach t old ≤ reach t seat) → (t : ℕ) → reach_in t seats ≤ reach_in t (set seats i seat)
  set_reach up t = reach_set t seats i old seat long (subst (λ (s : DeskSeatFacts). reach t s ≤ reach t seat) was (up t))

  pub set_there : (t : ℕ) → reach t seat ≤ reach_in t (set seats i seat)
  set_there t = subst (λ (s : DeskSeatFacts). reach t s ≤ reach_in t (set seats i seat)) (get_or-set_same seats i seat seat long) (reach_at t (set seats i seat) i seat (subst (λ (n : ℕ). i < n) (sym (length-set seats i seat)) long))
