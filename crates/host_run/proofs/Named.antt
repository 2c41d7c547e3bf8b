-- Free snapshots have names that are fit for files.
use Rattle.std.proofs.Common.{◌≡◌, ℕ, Bool, true, false, cond, List, [], ◌∷◌, ◌++◌, length, map, filter, refl, sym, ap, ◌∙◌, arith}
use Rattle.std.specs.Prelude.{◌&&◌, ◌||◌, ◌==◌, nat_le, not, ⊤}
use Rattle.std.specs.List.{list_all, AllByRecursion}
use Rattle.host_text.specs.Words as words
use Rattle.elab_laws.specs.vl_uses.specs.Calls as uses
use Rattle.host_text.specs.vl_design.specs.Alone.{FreeSave}
use Rattle.host_text.specs.vl_design.specs.Cost.{Cost}
use Rattle.elab_laws.specs.Names.{is_named}
use Rattle.host_text.specs.declared.script.FabricLine.{FabricLine}
use Rattle.host_text.specs.declared.script.Free.{Free}
use Rattle.host_text.specs.declared.script.Free.TheVariants as free
use Rattle.host_text.specs.Laws.{IsSpeltFree}
use Rattle.fab_rounds.specs.fab_orders.specs.declared.outcomes.Answer.{Answer}
use Rattle.fab_rounds.specs.fab_orders.specs.declared.outcomes.Order.{Order}
use Rattle.fab_rounds.specs.fab_orders.specs.declared.outcomes.Reached.{Reached}
use Rattle.fab_rounds.specs.fab_orders.specs.declared.outcomes.Reached.TheVariants as reached
use Rattle.fab_rounds.specs.fab_orders.specs.declared.outcomes.Wanted.{Wanted}
use Rattle.fab_rounds.specs.fab_orders.specs.declared.outcomes.Wanted.TheVariants as wanted
use Rattle.fab_rounds.specs.fab_orders.specs.Orders.{saves_in, saves_of}
use Rattle.fab_rounds.specs.fab_orders.specs.Totals.{total}
use Rattle.host_outcomes.specs.Given.{fits, given, is_gone, order_for, wanted_by}
use Rattle.host_text.specs.vl_base.proofs.Booleans.{or_comm as swapped}

-- ---- names as scripts have them

same_byte : (b : ℕ) → words.is_save_byte b ≡ uses.is_name_byte b
same_byte b =
    ap (λ (z : Bool). z || (nat_le 48 b && nat_le b 57) || b == 95 || b == 45 || b == 46) (swapped (nat_le 65 b && nat_le b 90) (nat_le 97 b && nat_le b 122))

same_bytes : (text : List ℕ) → list_all words.is_save_byte text ≡ list_all uses.is_name_byte text
same_bytes [] = refl
same_bytes (b ∷ bs) = ap (λ (z : Bool). z && list_all words.is_save_byte bs) (same_byte b) ∙ ap (λ (z : Bool). uses.is_name_byte b && z) (same_bytes bs)

named : (text : List ℕ) → words.is_save_name text ≡ true → is_named text ≡ true
named text e = sym (ap (λ (z : Bool). nat_le 1 (length text) && nat_le (length text) 32 && z) (same_bytes text)) ∙ e

-- ---- orders

abbrev pub IsNamedWanted : Wanted → Type 0
IsNamedWanted (wanted.Save name) = is_named name ≡ true
IsNamedWanted w = ⊤

abbrev pub AreNamed : List Order → Type 0
AreNamed orders = AllByRecursion (λ o. IsNamedWanted o.wanted) orders

named_free : (o : Free) → IsSpeltFree o → IsNamedWanted (wanted_by o)
named_free (free.Move n g) h = tt
named_free (free.Stop n) h = tt
named_free (free.Save n name) h = named name h
named_free (free.Watch n) h = tt

-- the saves that are given have such names
pub given_named : (fabrics : List FabricLine) (refused : List Bool) (costs : List Cost) (orders : List Free) → AllByRecursion IsSpeltFree orders → AreNamed (given fabrics refused costs orders)
given_named fabrics refused costs [] h = tt
given_named fabrics refused costs (o ∷ orders) h = by (not (is_gone refused o) && fits fabrics refused costs o) (given_named fabrics refused costs orders h.1)
  where
    by : (b : Bool) → AreNamed (given fabrics refused costs orders) → AreNamed (map (order_for refused) (cond b (o ∷ filter (λ o. not (is_gone refused o) && fits fabrics refused costs o) orders) (filter (λ o. not (is_gone refused o) && fits fabrics refused costs o) orders)))
    by true r = (named_free o h.0, r)
    by false r = r

-- ---- snapshots

-- 1 for a snapshot of another name
abbrev pub other : FreeSave → ℕ
other f = cond (is_named f.name) 0 1

other_none : (f : FreeSave) → is_named f.name ≡ true → other f ≡ 0
other_none f e = ap (λ (b : Bool). cond b 0 1) e

none_in : (t u : ℕ) (w : Wanted) (r : Reached) → IsNamedWanted w → (ss : List FreeSave) → total other ss ≡ 0 → total other (saves_in t u w r ++ ss) ≡ 0
none_in t u (wanted.Move g) r h ss z = z
none_in t u wanted.Stop r h ss z = z
none_in t u (wanted.Save name) (reached.At k) h ss z = by (u == t)
  where
    by : (b : Bool) → total other (cond b (record { name = name; tick = k } ∷ []) [] ++ ss) ≡ 0
    by true = let n = other_none (record { name = name; tick = k }) h in omega (arith, n, z)
    by false = z
none_in t u (wanted.Save name) (reached.Ended k) h ss z = z
none_in t u wanted.Watch r h ss z = z

pub saves_named : (t : ℕ) (answers : List Answer) → AreNamed (map (λ a. a.order.value) answers) → total other (saves_of t answers) ≡ 0
saves_named t [] h = refl
saves_named t (a ∷ answers) h = none_in t a.order.value.tenant a.order.value.wanted a.reached h.0 (saves_of t answers) (saves_named t answers h.1)

-- where none has another name, each has such a one
pub all_named : (free : List FreeSave) → total other free ≡ 0 → AllByRecursion (λ f. is_named f.name ≡ true) free
all_named [] z = tt
all_named (f ∷ fs) z = (by (is_named f.name) refl, all_named fs (omega (arith, z)))
  where
    by : (b : Bool) → is_named f.name ≡ b → b ≡ true
    by true e = refl
    by false e = absurd (let n : other f ≡ 1 = ap (λ (b : Bool). cond b 0 1) e in omega (arith, n, z))
