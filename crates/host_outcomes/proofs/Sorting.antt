-- Orders that are given, and those that aren't.
use Rattle.std.proofs.Common.{◌≡◌, Bool, true, false, cond, ◌&&◌, if◌then◌else◌, List, [], ◌∷◌, filter, map, get_or, Option, Some, None, refl, sym, ap, ◌∙◌}
use Rattle.std.specs.Prelude.{not}
use Rattle.ten_files.specs.vl_design.specs.Cost.{Cost}
use Rattle.host_judge.specs.host_text.specs.declared.script.FabricLine.{FabricLine}
use Rattle.host_judge.specs.host_text.specs.declared.script.Free.{Free}
use Rattle.host_judge.specs.host_text.specs.declared.block.Reply.{Reply}
use Rattle.host_judge.specs.host_text.specs.declared.block.Reply.TheVariants as reply_is
use Rattle.fab_orders.specs.declared.outcomes.Answer.{Answer}
use Rattle.fab_orders.specs.declared.outcomes.Order.{Order}
use Rattle.host_judge.specs.host_form.specs.Orders.{tenant_of, Answered}
use Rattle.host_outcomes.specs.Given.{answered, fits, given, is_gone, no_cost, order_for, rank, reply_for, with_reply}
use Rattle.host_outcomes.specs.Steps.{at_once, said_at_once}

module _ (fabrics : List FabricLine) (refused : List Bool) (costs : List Cost) where
  -- by whether its tenant is refused, and whether there is a place for it
  abbrev pub said_by : Bool → Bool → Option Reply
  said_by gone placed = if gone then Some reply_is.Refused else if placed then None else Some reply_is.Small

  abbrev pub given_by : Bool → Bool → Free → List Free → List Order
  given_by gone placed o os =
      map (order_for refused) (cond (not gone && placed)
      (o ∷ filter (λ x. not (is_gone refused x) && fits fabrics refused costs x) os)
      (filter (λ x. not (is_gone refused x) && fits fabrics refused costs x) os))

  abbrev pub answered_by : Bool → Bool → Free → List Free → List Answer → List Answered
  answered_by gone placed o os ts =
      if gone then with_reply o reply_is.Refused ∷ answered fabrics refused costs os ts
      else if not placed then with_reply o reply_is.Small ∷ answered fabrics refused costs os ts
      else elim ts [ [] ↦ [] | a ∷ rest ↦ with_reply o (reply_for a.reached) ∷ answered fabrics refused costs os rest ]

  said-by : (o : Free) → said_at_once fabrics refused costs o ≡ said_by (is_gone refused o) (fits fabrics refused costs o)
  said-by o = by (is_gone refused o)
    where
      by : (b : Bool) → at_once fabrics (if b then None else Some (get_or costs (rank refused (tenant_of o)) no_cost)) o ≡ said_by b (fits fabrics refused costs o)
      by true = refl
      by false = refl

  -- ---- one to which a reply is said at once

  given-some : (b c : Bool) (o : Free) (os : List Free) (r : Reply) → said_by b c ≡ Some r → given_by b c o os ≡ given fabrics refused costs os
  given-some true c o os r e = refl
  given-some false false o os r e = refl
  given-some false true o os r e = let z : ⊥ = cc in absurd z

  answered-some : (b c : Bool) (o : Free) (os : List Free) (ts : List Answer) (r : Reply) → said_by b c ≡ Some r → answered_by b c o os ts ≡ with_reply o r ∷ answered fabrics refused costs os ts
  answered-some true c o os ts r e = let k : reply_is.Refused ≡ r = cc in ap (λ x. with_reply o x ∷ answered fabrics refused costs os ts) k
  answered-some false false o os ts r e = let k : reply_is.Small ≡ r = cc in ap (λ x. with_reply o x ∷ answered fabrics refused costs os ts) k
  answered-some false true o os ts r e = let z : ⊥ = cc in absurd z

  pub given-said : (o : Free) (os : List Free) (r : Reply) → said_at_once fabrics refused costs o ≡ Some r → given fabrics refused costs (o ∷ os) ≡ given fabrics refused costs os
  given-said o os r e = given-some (is_gone refused o) (fits fabrics refused costs o) o os r (sym (said-by o) ∙ e)

  pub answered-said : (o : Free) (os : List Free) (ts : List Answer) (r : Reply) → said_at_once fabrics refused costs o ≡ Some r
      → answered fabrics refused costs (o ∷ os) ts ≡ with_reply o r ∷ answered fabrics refused costs os ts
  answered-said o os ts r e = answered-some (is_gone refused o) (fits fabrics refused costs o) o os ts r (sym (said-by o) ∙ e)

  -- ---- one that is given

  given-none : (b c : Bool) (o : Free) (os : List Free) → said_by b c ≡ None → given_by b c o os ≡ order_for refused o ∷ given fabrics refused costs os
  given-none true c o os e = let z : ⊥ = cc in absurd z
  given-none false false o os e = let z : ⊥ = cc in absurd z
  given-none false true o os e = refl

  answered-none : (b c : Bool) (o : Free) (os : List Free) (a : Answer) (ts : List Answer) → said_by b c ≡ None
      → answered_by b c o os (a ∷ ts) ≡ with_reply o (reply_for a.reached) ∷ answered fabrics refused costs os ts
  answered-none true c o os a ts e = let z : ⊥ = cc in absurd z
  answered-none false false o os a ts e = let z : ⊥ = cc in absurd z
  answered-none false true o os a ts e = refl

  pub given-next : (o : Free) (os : List Free) → said_at_once fabrics refused costs o ≡ None → given fabrics refused costs (o ∷ os) ≡ order_for refused o ∷ given fabrics refused costs os
  given-next o os e = given-none (is_gone refused o) (fits fabrics refused costs o) o os (sym (said-by o) ∙ e)

  pub answered-next : (o : Free) (os : List Free) (a : Answer) (ts : List Answer) → said_at_once fabrics refused costs o ≡ None
      → answered fabrics refused costs (o ∷ os) (a ∷ ts) ≡ with_reply o (reply_for a.reached) ∷ answered fabrics refused costs os ts
  answered-next o os a ts e = answered-none (is_gone refused o) (fits fabrics refused costs o) o os a ts (sym (said-by o) ∙ e)
