-- The lines of orders, one after another.
use Rattle.std.proofs.Common.{◌≡◌, ◌⊎◌, inl, inr, ℕ, zero, suc, ◌+◌, ◌<◌, ◌≤◌, Bool, true, false, List, [], ◌∷◌, ◌++◌, drop, if◌then◌else◌, filter, length, map, get_or, take, is_none, Option, Some, None, refl, sym, subst, ap, ◌∙◌, arith}
use Rattle.std.proofs.lemmas.Bool.{cases_lt}
use Rattle.std.proofs.lemmas.List.{append_assoc, drop_all, drop_more, get_or-map}
use Rattle.ten_files.specs.vl_design.specs.Cost.{Cost}
use Rattle.host_judge.specs.host_text.specs.declared.script.Free.{Free}
use Rattle.host_judge.specs.host_text.specs.declared.script.Script.{Script}
use Rattle.host_judge.specs.host_text.specs.declared.block.FreeLine.{FreeLine}
use Rattle.host_judge.specs.host_text.specs.declared.block.Reply.{Reply}
use Rattle.fab_orders.specs.declared.outcomes.Answer.{Answer}
use Rattle.host_judge.specs.host_form.specs.Orders.{free_line, Answered}
use Rattle.host_judge.specs.host_form.specs.declared.refusal.Refusal.{Refusal}
use Rattle.host_report.specs.Ends.{is_refused}
use Rattle.host_outcomes.specs.Given.{answered, given, no_cost, order_for, rank, reply_for, with_reply}
use Rattle.host_outcomes.specs.Steps.{cost_in, said_at_once, AreMade}
use Rattle.host_outcomes.proofs.Knowing.{member}
use Rattle.host_outcomes.proofs.Ranks.{rank-runs, running}
use Rattle.host_outcomes.proofs.Sorting.{answered-next, answered-said, given-next, given-said}

-- ---- numbers

pub rank-is : (refusals : List (Option Refusal)) (n : ℕ) → length (filter (λ r. is_none r) (take n refusals)) ≡ rank (map is_refused refusals) n
rank-is [] zero = refl
rank-is [] (suc n) = refl
rank-is (x ∷ rs) zero = refl
rank-is (Some x ∷ rs) (suc n) = rank-is rs n
rank-is (None ∷ rs) (suc n) = ap suc (rank-is rs n)

pub rank-few : (refused : List Bool) (n : ℕ) → rank refused n ≤ n
rank-few [] zero = omega arith
rank-few [] (suc n) = omega arith
rank-few (x ∷ rs) zero = omega arith
rank-few (true ∷ rs) (suc n) = let l = rank-few rs n in omega (arith, l)
rank-few (false ∷ rs) (suc n) = let l = rank-few rs n in omega (arith, l)

pub gone-at : (refusals : List (Option Refusal)) (n : ℕ) (r : Option Refusal) → n < length refusals → r ≡ get_or refusals n r → get_or (map is_refused refusals) n true ≡ is_refused r
gone-at refusals n r l e = get_or-map is_refused refusals n r true l ∙ ap is_refused (sym e)

pub runs-at : (refusals : List (Option Refusal)) (n : ℕ) (r : Option Refusal) → n < length refusals → r ≡ get_or refusals n r → r ≡ None → get_or (map is_refused refusals) n true ≡ false
runs-at refusals n r l e none = gone-at refusals n r l e ∙ ap is_refused none

pub number-within : {X : Type 0} (refusals : List (Option Refusal)) (xs : List X) (n k : ℕ) (r : Option Refusal) → n < length refusals → r ≡ get_or refusals n r → r ≡ None
    → length xs ≡ running (map is_refused refusals) → k ≡ rank (map is_refused refusals) n → k < length xs
number-within refusals xs n k r l e none count same = let m = rank-runs (map is_refused refusals) n (runs-at refusals n r l e none) in omega (arith, m, count, same)

-- what one costs that isn't refused
pub cost-at : {X : Type 0} (f : X → Cost) (refusals : List (Option Refusal)) (xs : List X) (n k : ℕ) (r : Option Refusal) (x : X) → n < length refusals → r ≡ get_or refusals n r → r ≡ None
    → length xs ≡ running (map is_refused refusals) → k ≡ rank (map is_refused refusals) n → Some (f (get_or xs k x)) ≡ cost_in (map is_refused refusals) (map f xs) n
cost-at f refusals xs n k r x l e none count same =
    let m = number-within refusals xs n k r l e none count same in
    ap Some (sym (get_or-map f xs k x no_cost m) ∙ ap (λ i. get_or (map f xs) i no_cost) same)
    ∙ sym (ap (λ (b : Bool). if b then None else Some (get_or (map f xs) (rank (map is_refused refusals) n) no_cost)) (runs-at refusals n r l e none))

-- ---- lines

module _ (s : Script) (refused : List Bool) (costs : List Cost) (answers : List Answer) (lines : List FreeLine) (next : ℕ) (o : Free) (rest : List Free)
    (made : AreMade s refused costs answers lines next (o ∷ rest)) where
  pub made-said : (r : Reply) (line : FreeLine) → said_at_once s.fabrics refused costs o ≡ Some r → line ≡ free_line s (with_reply o r) → AreMade s refused costs answers (lines ++ line ∷ []) next rest
  made-said r line e is = record {
    within = made.within;
    given_rest = made.given_rest ∙ given-said s.fabrics refused costs o rest r e;
    whole =
        append_assoc lines (line ∷ []) (map (free_line s) (answered s.fabrics refused costs rest (drop next answers)))
        ∙ ap (λ (l : FreeLine). lines ++ l ∷ map (free_line s) (answered s.fabrics refused costs rest (drop next answers))) is
        ∙ ap (λ (xs : List Answered). lines ++ map (free_line s) xs) (sym (answered-said s.fabrics refused costs o rest (drop next answers) r e))
        ∙ made.whole;
  }

  pub next-there : said_at_once s.fabrics refused costs o ≡ None → next < length answers
  next-there e = by (cases_lt next (length answers))
    where
      by : (next < length answers) ⊎ (length answers ≤ next) → next < length answers
      by (inl l) = l
      by (inr l) =
          let none = ap (λ (ts : List Answer). map (λ a. a.order.value) ts) (drop_all next answers l) in
          let some = made.given_rest ∙ given-next s.fabrics refused costs o rest e in
          let z : ⊥ = cc in absurd z

  pub made-given : (r : Reply) (line : FreeLine) → said_at_once s.fabrics refused costs o ≡ None → ((d : Answer) → r ≡ reply_for (get_or answers next d).reached) → line ≡ free_line s (with_reply o r)
      → AreMade s refused costs answers (lines ++ line ∷ []) (next + 1) rest
  made-given r line e reply is =
      let l = next-there e in
      let d = member answers next l in
      let a : Answer = get_or answers next d in
      let ts : List Answer = drop (next + 1) answers in
      let more : drop next answers ≡ a ∷ ts = drop_more answers next d l in
      let asked : a.order.value ∷ map (λ x. x.order.value) ts ≡ order_for refused o ∷ given s.fabrics refused costs rest =
      ap (λ (xs : List Answer). map (λ x. x.order.value) xs) (sym more) ∙ made.given_rest ∙ given-next s.fabrics refused costs o rest e in
      record {
        within = omega (arith, l);
        given_rest = cc;
        whole =
            append_assoc lines (line ∷ []) (map (free_line s) (answered s.fabrics refused costs rest ts))
            ∙ ap (λ (x : FreeLine). lines ++ x ∷ map (free_line s) (answered s.fabrics refused costs rest ts)) (is ∙ ap (λ (x : Reply). free_line s (with_reply o x)) (reply d))
            ∙ ap (λ (xs : List Answered). lines ++ map (free_line s) xs) (sym (answered-next s.fabrics refused costs o rest a ts e))
            ∙ ap (λ (xs : List Answer). lines ++ map (free_line s) (answered s.fabrics refused costs (o ∷ rest) xs)) (sym more)
            ∙ made.whole;
      }

pub as-made : (s : Script) (refused : List Bool) (costs : List Cost) (answers : List Answer) (rest : List Free) (lines lines' : List FreeLine) (next next' : ℕ) → lines' ≡ lines → next' ≡ next
    → AreMade s refused costs answers lines next rest → AreMade s refused costs answers lines' next' rest
as-made s refused costs answers rest lines lines' next next' a b h =
    subst (λ (n : ℕ). AreMade s refused costs answers lines' n rest) (sym b) (subst (λ (ls : List FreeLine). AreMade s refused costs answers ls next rest) (sym a) h)
