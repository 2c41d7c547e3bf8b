-- What replies say is what answers say.
use Rattle.std.proofs.Common.{◌≡◌, ℕ, ◌+◌, Bool, true, false, cond, ◌==◌, ◌&&◌, if◌then◌else◌, List, [], ◌∷◌, ◌++◌, length, filter, map, get_or, Option, Some, None, refl, subst, ap, ◌∙◌}
use Rattle.std.proofs.lemmas.List.{length-append}
use Rattle.std.proofs.lemmas.List.Elements.{filter-append}
use Rattle.ten_files.specs.vl_design.specs.Cost.{Cost}
use Rattle.ten_files.specs.vl_design.specs.Alone.{FreeSave}
use Rattle.host_judge.specs.host_text.specs.declared.script.FabricLine.{FabricLine}
use Rattle.host_judge.specs.host_text.specs.declared.script.Free.{Free}
use Rattle.host_judge.specs.host_text.specs.declared.script.Free.TheVariants as free
use Rattle.host_judge.specs.host_text.specs.declared.block.Reply.{Reply}
use Rattle.host_judge.specs.host_text.specs.declared.block.Reply.TheVariants as reply_is
use Rattle.fab_orders.specs.declared.outcomes.Answer.{Answer}
use Rattle.fab_orders.specs.declared.outcomes.Order.{Order}
use Rattle.fab_orders.specs.declared.outcomes.Reached.{Reached}
use Rattle.fab_orders.specs.declared.outcomes.Reached.TheVariants as reached
use Rattle.fab_orders.specs.Orders as run
use Rattle.host_judge.specs.host_form.specs.Orders as form
use Rattle.host_judge.specs.host_form.specs.Orders.{moves_in, moves_of, puts_at, saves_in, saves_of, stop_in, stop_of, tenant_of, Answered, Put}
use Rattle.host_outcomes.specs.Ends.{DidAs, Tells}
use Rattle.host_outcomes.specs.Given.{answered, fits, given, is_gone, order_for, rank, reply_for, wanted_by, with_reply}
use Rattle.host_outcomes.proofs.Ranks.{rank-of-number, same-number}
use Rattle.host_outcomes.proofs.Sorting.{answered_by, given_by}
use Rattle.host_judge.specs.host_form.proofs.Shared.{puts_append as puts-append}

-- ---- sums

or-same : (x y : Option ℕ) → form.or_else x y ≡ run.or_else x y
or-same (Some k) y = refl
or-same None y = refl

one-put : (x y : Bool) (p : Put) → length (cond (x && y) (p ∷ []) []) ≡ (if y && x then 1 else 0)
one-put true true p = refl
one-put true false p = refl
one-put false true p = refl
one-put false false p = refl

-- ---- replies that are said at once

abbrev bare : Bool → Reply
bare true = reply_is.Refused
bare false = reply_is.Small

module _ (n : ℕ) where
  no-stop : (o : Free) (b : Bool) → stop_in n o (bare b) ≡ None
  no-stop (free.Move t g) true = refl
  no-stop (free.Move t g) false = refl
  no-stop (free.Stop t) true = refl
  no-stop (free.Stop t) false = refl
  no-stop (free.Save t name) true = refl
  no-stop (free.Save t name) false = refl
  no-stop (free.Watch t) true = refl
  no-stop (free.Watch t) false = refl

  no-save : (o : Free) (b : Bool) → saves_in n o (bare b) ≡ []
  no-save (free.Move t g) true = refl
  no-save (free.Move t g) false = refl
  no-save (free.Stop t) true = refl
  no-save (free.Stop t) false = refl
  no-save (free.Save t name) true = refl
  no-save (free.Save t name) false = refl
  no-save (free.Watch t) true = refl
  no-save (free.Watch t) false = refl

  no-move : (o : Free) (b : Bool) → moves_in n o (bare b) ≡ []
  no-move (free.Move t g) true = refl
  no-move (free.Move t g) false = refl
  no-move (free.Stop t) true = refl
  no-move (free.Stop t) false = refl
  no-move (free.Save t name) true = refl
  no-move (free.Save t name) false = refl
  no-move (free.Watch t) true = refl
  no-move (free.Watch t) false = refl

  skip : (k : ℕ) (o : Free) (b : Bool) (xs : List Answered) (ts : List Answer) → Tells xs n k ts → Tells (with_reply o (bare b) ∷ xs) n k ts
  skip k o b xs ts t = record {
    stop = ap (λ x. form.or_else x (stop_of n xs)) (no-stop o b) ∙ t.stop;
    saves = ap (λ ys. ys ++ saves_of n xs) (no-save o b) ∙ t.saves;
    moves = λ g j. ap (λ ys. puts_at g j (ys ++ moves_of n xs)) (no-move o b) ∙ t.moves g j;
  }

-- ---- orders that were given

module _ (refused : List Bool) (n : ℕ) (runs : get_or refused n true ≡ false) where
  abbrev k : ℕ
  k = rank refused n

  same-stop : (o : Free) (x : Reached) → is_gone refused o ≡ false → stop_in n o (reply_for x) ≡ run.stop_in k (rank refused (tenant_of o)) (wanted_by o) x
  same-stop (free.Move t g) (reached.At j) e = refl
  same-stop (free.Move t g) (reached.Ended j) e = refl
  same-stop (free.Stop t) (reached.At j) e = ap (λ b. if b then Some j else None) (same-number refused t n e runs)
  same-stop (free.Stop t) (reached.Ended j) e = refl
  same-stop (free.Save t name) (reached.At j) e = refl
  same-stop (free.Save t name) (reached.Ended j) e = refl
  same-stop (free.Watch t) (reached.At j) e = refl
  same-stop (free.Watch t) (reached.Ended j) e = refl

  same-saves : (o : Free) (x : Reached) → is_gone refused o ≡ false → saves_in n o (reply_for x) ≡ run.saves_in k (rank refused (tenant_of o)) (wanted_by o) x
  same-saves (free.Move t g) (reached.At j) e = refl
  same-saves (free.Move t g) (reached.Ended j) e = refl
  same-saves (free.Stop t) (reached.At j) e = refl
  same-saves (free.Stop t) (reached.Ended j) e = refl
  same-saves (free.Save t name) (reached.At j) e = ap (λ b. if b then record { name = name; tick = j } ∷ [] else []) (same-number refused t n e runs)
  same-saves (free.Save t name) (reached.Ended j) e = refl
  same-saves (free.Watch t) (reached.At j) e = refl
  same-saves (free.Watch t) (reached.Ended j) e = refl

  moved : (g j h i : ℕ) (b c : Bool) → b ≡ c → puts_at g j (if b then record { fabric = h; tick = i } ∷ [] else []) ≡ (if c && ((i == j) && (h == g)) then 1 else 0)
  moved g j h i true true e = one-put (h == g) (i == j) (record { fabric = h; tick = i })
  moved g j h i true false e = let z : ⊥ = cc in absurd z
  moved g j h i false true e = let z : ⊥ = cc in absurd z
  moved g j h i false false e = refl

  same-moves : (g j : ℕ) (o : Free) (x : Reached) → is_gone refused o ≡ false → puts_at g j (moves_in n o (reply_for x)) ≡ run.moves_in k j g (rank refused (tenant_of o)) (wanted_by o) x
  same-moves g j (free.Move t h) (reached.At i) e = moved g j h i (t == n) (rank refused t == k) (same-number refused t n e runs)
  same-moves g j (free.Move t h) (reached.Ended i) e = refl
  same-moves g j (free.Stop t) (reached.At i) e = refl
  same-moves g j (free.Stop t) (reached.Ended i) e = refl
  same-moves g j (free.Save t name) (reached.At i) e = refl
  same-moves g j (free.Save t name) (reached.Ended i) e = refl
  same-moves g j (free.Watch t) (reached.At i) e = refl
  same-moves g j (free.Watch t) (reached.Ended i) e = refl

  add : (o : Free) (a : Answer) (xs : List Answered) (ts : List Answer) → order_for refused o ≡ a.order.value → is_gone refused o ≡ false → Tells xs n k ts
      → Tells (with_reply o (reply_for a.reached) ∷ xs) n k (a ∷ ts)
  add o a xs ts same e t = record {
    stop =
        or-same (stop_in n o (reply_for a.reached)) (stop_of n xs)
        ∙ ap (λ y. run.or_else y (stop_of n xs)) (same-stop o a.reached e)
        ∙ ap (λ y. run.or_else (run.stop_in k (rank refused (tenant_of o)) (wanted_by o) a.reached) y) t.stop
        ∙ ap (λ (q : Order). run.or_else (run.stop_in k q.tenant q.wanted a.reached) (run.stop_of k ts)) same;
    saves =
        ap (λ (ys : List FreeSave). ys ++ saves_of n xs) (same-saves o a.reached e)
        ∙ ap (λ (ys : List FreeSave). run.saves_in k (rank refused (tenant_of o)) (wanted_by o) a.reached ++ ys) t.saves
        ∙ ap (λ (q : Order). run.saves_in k q.tenant q.wanted a.reached ++ run.saves_of k ts) same;
    moves = λ g j.
        puts-append g j (moves_in n o (reply_for a.reached)) (moves_of n xs)
        ∙ ap (λ y. y + puts_at g j (moves_of n xs)) (same-moves g j o a.reached e)
        ∙ ap (λ y. run.moves_in k j g (rank refused (tenant_of o)) (wanted_by o) a.reached + y) (t.moves g j)
        ∙ ap (λ (q : Order). run.moves_in k j g q.tenant q.wanted a.reached + run.moved_at k j g ts) same;
  }

  -- ---- all

  module _ (fabrics : List FabricLine) (costs : List Cost) where
    abbrev TellsAll : List Free → Type 0
    TellsAll os = (ts : List Answer) → map (λ a. a.order.value) ts ≡ given fabrics refused costs os → Tells (answered fabrics refused costs os ts) n k ts

    next : (o : Free) (os : List Free) → TellsAll os → is_gone refused o ≡ false → (ts : List Answer) → map (λ a. a.order.value) ts ≡ order_for refused o ∷ given fabrics refused costs os
        → Tells (answered_by fabrics refused costs false true o os ts) n k ts
    next o os rest e [] h = let z : ⊥ = cc in absurd z
    next o os rest e (a ∷ ts) h =
        let head : order_for refused o ≡ a.order.value = cc in
        let tail : map (λ x. x.order.value) ts ≡ given fabrics refused costs os = cc in
        add o a (answered fabrics refused costs os ts) ts head e (rest ts tail)

    step : (o : Free) (os : List Free) → TellsAll os → (b c : Bool) → is_gone refused o ≡ b → fits fabrics refused costs o ≡ c → (ts : List Answer)
        → map (λ a. a.order.value) ts ≡ given_by fabrics refused costs b c o os → Tells (answered_by fabrics refused costs b c o os ts) n k ts
    step o os rest true c e f ts h = skip n k o true (answered fabrics refused costs os ts) ts (rest ts h)
    step o os rest false false e f ts h = skip n k o false (answered fabrics refused costs os ts) ts (rest ts h)
    step o os rest false true e f ts h = next o os rest e ts h

    pub tells : (os : List Free) → TellsAll os
    tells [] [] h = record { stop = refl; saves = refl; moves = λ g j. refl }
    tells [] (t ∷ ts) h = let z : ⊥ = cc in absurd z
    tells (o ∷ os) ts h = step o os (tells os) (is_gone refused o) (fits fabrics refused costs o) refl refl ts h

pub did-as : (fabrics : List FabricLine) (refused : List Bool) (costs : List Cost) (os : List Free) (ts : List Answer) → map (λ a. a.order.value) ts ≡ given fabrics refused costs os
    → DidAs refused (answered fabrics refused costs os ts) ts
did-as fabrics refused costs os ts h k n l e =
    let r = rank-of-number refused k n l e in
    subst (λ i. Tells (answered fabrics refused costs os ts) n i ts) r.1 (tells refused n r.0 fabrics costs os ts h)

-- ---- each order has its reply

module _ (fabrics : List FabricLine) (refused : List Bool) (costs : List Cost) where
  abbrev AreSame : List Free → Type 0
  AreSame os = (ts : List Answer) → map (λ a. a.order.value) ts ≡ given fabrics refused costs os → map (λ a. a.order) (answered fabrics refused costs os ts) ≡ os

  one-same : (o : Free) (os : List Free) → AreSame os → (b c : Bool) (ts : List Answer) → map (λ a. a.order.value) ts ≡ given_by fabrics refused costs b c o os
      → map (λ a. a.order) (answered_by fabrics refused costs b c o os ts) ≡ o ∷ os
  one-same o os rest true c ts h = ap (λ xs. o ∷ xs) (rest ts h)
  one-same o os rest false false ts h = ap (λ xs. o ∷ xs) (rest ts h)
  one-same o os rest false true [] h = let z : ⊥ = cc in absurd z
  one-same o os rest false true (a ∷ ts) h = let tail : map (λ x. x.order.value) ts ≡ given fabrics refused costs os = cc in ap (λ xs. o ∷ xs) (rest ts tail)

  pub same-orders : (os : List Free) → AreSame os
  same-orders [] ts h = refl
  same-orders (o ∷ os) ts h = one-same o os (same-orders os) (is_gone refused o) (fits fabrics refused costs o) ts h
