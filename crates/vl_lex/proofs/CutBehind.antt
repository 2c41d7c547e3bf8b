-- A text that is cut right behind one of its tokens.
use Rattle.std.proofs.Common.{◌≡◌, ℕ, zero, suc, ◌+◌, ◌<◌, ◌≤◌, true, false, not, List, [], ◌∷◌, ◌++◌, length, get_or, take, drop, Some, refl, sym, ap, subst, ◌∙◌, arith, inl, inr}
use Rattle.std.specs.Prelude.{slice_get}
use Rattle.std.proofs.lemmas.Bool.{eqb-true, cases_Bool, true≢false}
use Rattle.std.proofs.lemmas.List.{append_assoc, append_cancel_left, append_cancel_right, length-append, take-append-drop, take_more, drop_more}
use Rattle.std.proofs.lemmas.Option.{slice_get_within, get_or_from_slice_get}
use Rattle.vl_tree.specs.vl_base.specs.declared.place.Place.{Place}
use Rattle.vl_tree.specs.declared.token.Token.{Token}
use Rattle.vl_tree.specs.declared.token.TokenKind.{TokenKind}
use Rattle.vl_tree.specs.declared.token.TokenKind.TheVariants as t
use Rattle.vl_tree.specs.Bytes.{is_white, is_letter, is_figure, begins, past}
use Rattle.vl_tree.specs.Marks.{IsMark}
use Rattle.vl_tree.specs.Gaps.{opens, opens_line, opens_block, opens_attribute}
use Rattle.vl_tree.specs.Tokens.{IsToken, keyword, name, escaped_name, system_name, plain, based, string, mark, start, next_place, place_after, Passes, here, gap, token}
use Rattle.vl_tree.specs.Faults.{IsRead, IsFirstFault, most_bytes, most_tokens}
use Rattle.vl_lex.specs.Laws.{IsSlice, AreSlices, IsBefore, IsCutBehind, paren_star, EndIn, IsReadOrOpen, star_in_parentheses}
use Rattle.vl_lex.specs.Reading.{run, first_of, sign_of, next, found, other_at, mark_at}
use Rattle.vl_lex.proofs.RunLaws.{run_and_past, run_passes, some_is}
use Rattle.vl_lex.proofs.Stands.{token_read}
use Rattle.vl_lex.proofs.PassLaws.{passes_then, found_rest, same_passed, past_token, next_nil}
use Rattle.vl_lex.proofs.TokenLaws.{place_rises, place_after-append, tokens_slices}
use Rattle.vl_lex.proofs.CutRuns.{white_run, paren_next, star_next, found_stands, cut_run, few_earlier, stops_fault}
use Rattle.vl_tree.proofs.Shared.{begins_then}

-- ---- parts of a run

-- a run in two parts
pub record Parts (p : Place) (text : List ℕ) (ts us : List Token) (q : Place) (rest : List ℕ) : Type 0 where
  pub place : Place
  pub behind : List ℕ
  pub first : Passes p text ts place behind
  pub second : Passes place behind us q rest

pub parts : {p q : Place} {text rest : List ℕ} {vs : List Token} → Passes p text vs q rest → (ts us : List Token) → vs ≡ ts ++ us → Parts p text ts us q rest
parts {p} {q} {text} {rest} here [] us e = record { place = p; behind = text; first = here; second = subst (λ (s : List Token). Passes p text s q rest) e here }
parts here (t ∷ ts) us e = absurd cc
parts (gap passed f g h) ts us e = let s = parts h ts us e in record { place = s.place; behind = s.behind; first = gap passed f g s.first; second = s.second }
parts {p} {q} {text} {rest} (token passed f k h) [] us e = record { place = p; behind = text; first = here; second = subst (λ (s : List Token). Passes p text s q rest) e (token passed f k h) }
parts {p} {text = text} (token {kind = kind} {tokens = vs} passed f k h) (t ∷ ts) us e =
    let one : Token = record { place = p; kind = kind } in
    let head : one ≡ t = cc in
    let tail : vs ≡ ts ++ us = cc in
    let s = parts h ts us tail in
    record { place = s.place; behind = s.behind; first = subst (λ (x : Token). Passes p text (x ∷ ts) s.place s.behind) head (token passed f k s.first); second = s.second }

-- the first token of a run, and what goes before and behind it
pub record First (p : Place) (text : List ℕ) (one : Token) (us : List Token) (q : Place) (rest : List ℕ) : Type 0 where
  pub at : List ℕ
  pub after : List ℕ
  pub passed : List ℕ
  pub gaps : Passes p text [] one.place at
  pub spelled : at ≡ passed ++ after
  pub is_token : IsToken at one.kind after
  pub then : Passes (place_after one.place passed) after us q rest

pub first_of_run : {p q : Place} {text rest : List ℕ} {vs : List Token} → Passes p text vs q rest → (one : Token) (us : List Token) → vs ≡ one ∷ us → First p text one us q rest
first_of_run here one us e = absurd cc
first_of_run (gap passed f g h) one us e =
    let k = first_of_run h one us e in
    record { at = k.at; after = k.after; passed = k.passed; gaps = gap passed f g k.gaps; spelled = k.spelled; is_token = k.is_token; then = k.then }
first_of_run {p} {q} {text} {rest} (token {after = after} {kind = kind} {tokens = vs} passed f k h) one us e =
    let this : Token = record { place = p; kind = kind } in
    let head : this ≡ one = cc in
    let tail : vs ≡ us = cc in
    let found : First p text this vs q rest = record { at = text; after = after; passed = passed; gaps = here; spelled = f; is_token = k; then = h } in
    subst (λ (x : Token). First p text x us q rest) head (subst (λ (s : List Token). First p text this s q rest) tail found)

-- what is passed, and the place behind it
pub record Back (p : Place) (text : List ℕ) (q : Place) (rest : List ℕ) : Type 0 where
  pub front : List ℕ
  pub spelled : text ≡ front ++ rest
  pub place : q ≡ place_after p front

back_then : (p : Place) (text passed after : List ℕ) (q : Place) (rest : List ℕ) → text ≡ passed ++ after → Back (place_after p passed) after q rest → Back p text q rest
back_then p text passed after q rest e b = record {
  front = passed ++ b.front;
  spelled = e ∙ ap (λ (s : List ℕ). passed ++ s) b.spelled ∙ sym (append_assoc passed b.front rest);
  place = b.place ∙ sym (place_after-append p passed b.front);
}

pub back : {p q : Place} {text rest : List ℕ} {ts : List Token} → Passes p text ts q rest → Back p text q rest
unfolding place_after
back {p} here = record { front = []; spelled = refl; place = refl }
back {p} {q} {text} {rest} (gap {after = after} passed e g h) = back_then p text passed after q rest e (back h)
back {p} {q} {text} {rest} (token {after = after} passed e t h) = back_then p text passed after q rest e (back h)

-- ---- places

not_before_itself : {X : Type 0} (p q : Place) → IsBefore p q → p ≡ q → X
not_before_itself p q (inl h) e = absurd (omega (arith, ap (λ (x : Place). x.line) e))
not_before_itself p q (inr h) e = absurd (omega (arith, ap (λ (x : Place). x.column) e))

-- two fronts of a text with the same place behind them are one
same_front : (p : Place) (a b s t : List ℕ) → a ++ s ≡ b ++ t → place_after p a ≡ place_after p b → a ≡ b
unfolding place_after
same_front p [] [] s t e f = refl
same_front p [] (y ∷ b) s t e f = not_before_itself p (place_after p (y ∷ b)) (place_rises p (y ∷ b) (omega arith)) f
same_front p (x ∷ a) [] s t e f = not_before_itself p (place_after p (x ∷ a)) (place_rises p (x ∷ a) (omega arith)) (sym f)
same_front p (x ∷ a) (y ∷ b) s t e f =
    let head : x ≡ y = cc in
    let tail : a ++ s ≡ b ++ t = cc in
    let places : place_after (next_place p x) a ≡ place_after (next_place p x) b = f ∙ ap (λ (z : ℕ). place_after (next_place p z) b) (sym head) in
    let same = same_front (next_place p x) a b s t tail places in
    cc

-- a run that ends at its own place passes nothing
stays : {p q : Place} {text rest : List ℕ} {ts : List Token} → Passes p text ts q rest → q ≡ p → text ≡ rest
stays {p} {q} {text} {rest} h e =
    let b = back h in
    let none : b.front ≡ [] = nothing p b.front (sym e ∙ b.place) in
    b.spelled ∙ ap (λ (s : List ℕ). s ++ rest) none
  where
    nothing : (p : Place) (front : List ℕ) → p ≡ place_after p front → front ≡ []
    nothing p [] e = refl
    nothing p (x ∷ front) e = not_before_itself p (place_after p (x ∷ front)) (place_rises p (x ∷ front) (omega arith)) e

-- ---- `(*` that is read

record MarkThere (text m rest : List ℕ) : Type 0 where
  is_mark : IsMark text m rest
  shut : opens text ≡ false

mark_there : {text rest : List ℕ} {kind : TokenKind} → IsToken text kind rest → (m : List ℕ) → kind ≡ t.Mark m → MarkThere text m rest
mark_there (keyword k n ends r) m e = absurd cc
mark_there (name k n ends r) m e = absurd cc
mark_there (escaped_name k n ends) m e = absurd cc
mark_there (system_name k n ends) m e = absurd cc
mark_there (plain k h) m e = absurd cc
mark_there (based b k h) m e = absurd cc
mark_there (string s) m e = absurd cc
mark_there {text} {rest} (mark {mark = n} k o) m e = let same : n ≡ m = cc in subst (λ (x : List ℕ). MarkThere text x rest) same (record { is_mark = k; shut = o })

-- where no attribute begins with `(*`, there is `)` behind white space
shut_by : (rest : List ℕ) → opens (40 ∷ 42 ∷ rest) ≡ false → begins 41 (past is_white rest) ≡ true
unfolding opens opens_line opens_block opens_attribute
shut_by rest h = elim (cases_Bool (begins 41 (past is_white rest))) [ inl b ↦ b | inr b ↦ absurd (true≢false (sym (ap not b) ∙ h)) ]

close_next : (rest : List ℕ) → next (41 ∷ rest) ≡ found (t.Mark (41 ∷ [])) rest
unfolding next other_at mark_at first_of sign_of is_white is_letter is_figure opens_line opens_block opens_attribute
close_next rest = refl

-- so the text doesn't end there
no_end : {X : Type 0} {p q : Place} (rest : List ℕ) → begins 41 (past is_white rest) ≡ true → Passes p rest [] q [] → X
no_end {p = p} rest h k =
    let space : List ℕ = run is_white rest in
    let close : List ℕ = drop 1 (past is_white rest) in
    let split : rest ≡ space ++ (41 ∷ close) = run_and_past is_white rest ∙ ap (λ (s : List ℕ). space ++ s) (begins_then 41 (past is_white rest) h) in
    let passed : Passes p rest [] (place_after p space) (41 ∷ close) = subst (λ (s : List ℕ). Passes p s [] (place_after p space) (41 ∷ close)) (sym split) (white_run p space (41 ∷ close) (run_passes is_white rest)) in
    absurd (omega (arith, past_token (t.Mark (41 ∷ [])) close 1 passed (close_next close) k next_nil))

paren_star_no_end : {X : Type 0} (p place q : Place) (text : List ℕ) → Passes p text (paren_star place) q [] → X
unfolding place_after
paren_star_no_end p place q text h =
    let right : Place = record { line = place.line; column = place.column + 1 } in
    let star_token : Token = record { place = right; kind = t.Mark (42 ∷ []) } in
    let a = first_of_run h (record { place = place; kind = t.Mark (40 ∷ []) }) (star_token ∷ []) refl in
    let b = first_of_run a.then star_token [] refl in
    let paren = mark_there a.is_token (40 ∷ []) refl in
    let star = mark_there b.is_token (42 ∷ []) refl in
    let one : a.passed ≡ 40 ∷ [] = append_cancel_right a.passed (40 ∷ []) a.after (sym a.spelled ∙ paren.is_mark.spelled) in
    let two : b.passed ≡ 42 ∷ [] = append_cancel_right b.passed (42 ∷ []) b.after (sym b.spelled ∙ star.is_mark.spelled) in
    let beside : a.after ≡ b.at = stays b.gaps (ap (λ (s : List ℕ). place_after place s) (sym one)) in
    let spelled : a.at ≡ 40 ∷ 42 ∷ b.after = paren.is_mark.spelled ∙ ap (λ (s : List ℕ). 40 ∷ s) (beside ∙ star.is_mark.spelled) in
    no_end b.after (shut_by b.after (ap opens (sym spelled) ∙ paren.shut)) b.then

-- a text that is read doesn't end in `(*`
read_not_open : {q : Place} {text : List ℕ} {ts : List Token} → Passes start text ts q [] → (place : Place) → EndIn ts place → ⊥
read_not_open {q} h place e = let s = parts h e.0 (paren_star place) e.1 in paren_star_no_end s.place place q s.behind s.second

pub cut_read_or_open : (front rest : List ℕ) (place : Place) (ts : List Token) → length front ≤ most_bytes → length ts ≤ most_tokens → Passes start (front ++ rest) ts place rest → IsReadOrOpen front ts
cut_read_or_open front rest place ts short few h = elim (cut_run h front refl) [
  | inl k ↦ inl (record { short = short; few = few; read = k }, read_not_open k.1)
  | inr s ↦ inr (s.place, (s.earlier, s.tokens), stops_fault front ts short few s)
]

-- ---- token number n

nth_split : (ts : List Token) (n : ℕ) (one : Token) → slice_get ts n ≡ Some one → (take (n + 1) ts ≡ take n ts ++ (one ∷ [])) × (ts ≡ take n ts ++ (one ∷ drop (n + 1) ts))
nth_split ts n one e =
    let within : n < length ts = slice_get_within ts n one e in
    let there : get_or ts n one ≡ one = get_or_from_slice_get ts n one one e in (
      take_more ts n one within ∙ ap (λ (t : Token). take n ts ++ (t ∷ [])) there,
      sym (take-append-drop n ts) ∙ ap (λ (s : List Token). take n ts ++ s) (drop_more ts n one within ∙ ap (λ (t : Token). t ∷ drop (n + 1) ts) there),
    )

cut_split : (text cut : List ℕ) (ts : List Token) (n : ℕ) → (c : IsCutBehind text ts n cut) → text ≡ cut ++ c.slice.rest
cut_split text cut ts n c = c.slice.spelled ∙ sym (append_assoc c.slice.before c.slice.spelling c.slice.rest) ∙ ap (λ (s : List ℕ). s ++ c.slice.rest) (sym c.spelled)

-- the text up to the cut is a run of the tokens so far
cut_behind : (text cut : List ℕ) (ts : List Token) (n : ℕ) → IsRead text ts → (c : IsCutBehind text ts n cut) → (q : Place) × Passes start (cut ++ c.slice.rest) (take (n + 1) ts) q c.slice.rest
cut_behind text cut ts n r c =
    let one : Token = c.token in
    let slice : IsSlice text one = c.slice in
    let split = nth_split ts n one c.is_nth in
    let two = parts r.read.1 (take n ts) (one ∷ drop (n + 1) ts) split.1 in
    let f = first_of_run two.second one (drop (n + 1) ts) refl in
    let b = back (passes_then two.first f.gaps) in
    let same : b.front ≡ slice.before = same_front start b.front slice.before f.at (slice.spelling ++ slice.rest) (sym b.spelled ∙ slice.spelled) (sym b.place ∙ slice.at_place) in
    let at : f.at ≡ slice.spelling ++ slice.rest = append_cancel_left slice.before f.at (slice.spelling ++ slice.rest) (ap (λ (s : List ℕ). s ++ f.at) (sym same) ∙ sym b.spelled ∙ slice.spelled) in
    let after : f.after ≡ slice.rest = found_rest one.kind one.kind f.after slice.rest (sym (token_read f.is_token) ∙ ap next at ∙ token_read slice.is_token) in
    let end : Place = place_after one.place f.passed in
    let run : Passes start text (take n ts ++ (one ∷ [])) end f.after = passes_then two.first (passes_then f.gaps (token f.passed f.spelled f.is_token here)) in
    let so_far : Passes start text (take (n + 1) ts) end f.after = subst (λ (s : List Token). Passes start text s end f.after) (sym split.0) run in
    let to_rest : Passes start text (take (n + 1) ts) end slice.rest = subst (λ (s : List ℕ). Passes start text (take (n + 1) ts) end s) after so_far in
    (end, subst (λ (s : List ℕ). Passes start s (take (n + 1) ts) end slice.rest) (cut_split text cut ts n c) to_rest)

cut_short : (text cut : List ℕ) (ts : List Token) (n : ℕ) → IsRead text ts → IsCutBehind text ts n cut → length cut ≤ most_bytes
cut_short text cut ts n r c = omega (arith, r.short, ap length (cut_split text cut ts n c), length-append cut c.slice.rest)

few_so_far : (ts : List Token) (n : ℕ) → length ts ≤ most_tokens → length (take (n + 1) ts) ≤ most_tokens
few_so_far ts n h = few_earlier ts (take (n + 1) ts) (drop (n + 1) ts) (sym (take-append-drop (n + 1) ts)) h

pub behind_read_or_open : (text cut : List ℕ) (ts : List Token) (n : ℕ) → IsRead text ts → IsCutBehind text ts n cut → IsReadOrOpen cut (take (n + 1) ts)
behind_read_or_open text cut ts n r c =
    let so_far = cut_behind text cut ts n r c in
    cut_read_or_open cut c.slice.rest so_far.0 (take (n + 1) ts) (cut_short text cut ts n r c) (few_so_far ts n r.few) so_far.1

-- each token has its slice
slice_at : (text : List ℕ) (ts : List Token) (n : ℕ) → AreSlices text ts → n < length ts → (one : Token) × (slice_get ts n ≡ Some one) × IsSlice text one
slice_at text [] n h k = absurd (omega arith)
slice_at text (t ∷ ts) zero h k = (t, refl, h.0)
slice_at text (t ∷ ts) (suc n) h k = slice_at text ts n h.1 (omega arith)

cuts_end : (front rest other_front other_rest : List ℕ) → front ++ rest ≡ other_front ++ other_rest → rest ≡ other_rest → other_front ≡ front
cuts_end front rest other_front other_rest e f = append_cancel_right other_front front other_rest (sym e ∙ ap (λ (s : List ℕ). front ++ s) f)

-- two cuts behind one token leave the same
same_cut : (text cut other : List ℕ) (ts : List Token) (n : ℕ) → IsRead text ts → IsCutBehind text ts n cut → IsCutBehind text ts n other → other ≡ cut
same_cut text cut other ts n r c d =
    let same : c.token ≡ d.token = some_is c.token d.token (sym c.is_nth ∙ d.is_nth) in
    let before : c.slice.before ≡ d.slice.before = same_front start c.slice.before d.slice.before (c.slice.spelling ++ c.slice.rest) (d.slice.spelling ++ d.slice.rest) (sym c.slice.spelled ∙ d.slice.spelled) (sym c.slice.at_place ∙ ap (λ (t : Token). t.place) same ∙ d.slice.at_place) in
    let from : c.slice.spelling ++ c.slice.rest ≡ d.slice.spelling ++ d.slice.rest = append_cancel_left c.slice.before _ _ (sym c.slice.spelled ∙ d.slice.spelled ∙ ap (λ (s : List ℕ). s ++ (d.slice.spelling ++ d.slice.rest)) (sym before)) in
    let rests : c.slice.rest ≡ d.slice.rest = found_rest c.token.kind d.token.kind c.slice.rest d.slice.rest (sym (token_read c.slice.is_token) ∙ ap next from ∙ token_read d.slice.is_token) in
    cuts_end cut c.slice.rest other d.slice.rest (sym (cut_split text cut ts n c) ∙ cut_split text other ts n d) rests

pub each_cut : (text : List ℕ) (ts : List Token) (n : ℕ) → IsRead text ts → n < length ts → (cut : List ℕ) × IsCutBehind text ts n cut × ((other : List ℕ) → IsCutBehind text ts n other → other ≡ cut)
each_cut text ts n r h =
    let s = slice_at text ts n (tokens_slices text ts r.read) h in
    let cut : List ℕ = s.2.before ++ s.2.spelling in
    let behind : IsCutBehind text ts n cut = record { token = s.0; is_nth = s.1; slice = s.2; spelled = refl } in
    (cut, behind, λ other d. same_cut text cut other ts n r behind d)

-- ---- `(*)`

paren_stands : IsToken (40 ∷ 42 ∷ 41 ∷ []) (t.Mark (40 ∷ [])) (42 ∷ 41 ∷ [])
unfolding opens opens_line opens_block opens_attribute is_white past
paren_stands = found_stands (40 ∷ 42 ∷ 41 ∷ []) (42 ∷ 41 ∷ []) (t.Mark (40 ∷ [])) (omega arith) (paren_next (42 ∷ 41 ∷ []) refl)

star_stands : IsToken (42 ∷ 41 ∷ []) (t.Mark (42 ∷ [])) (41 ∷ [])
star_stands = found_stands (42 ∷ 41 ∷ []) (41 ∷ []) (t.Mark (42 ∷ [])) (omega arith) (star_next (41 ∷ []))

close_stands : IsToken (41 ∷ []) (t.Mark (41 ∷ [])) []
close_stands = found_stands (41 ∷ []) [] (t.Mark (41 ∷ [])) (omega arith) (close_next [])

-- `(*)` is three tokens
pub three_read : IsRead (40 ∷ 42 ∷ 41 ∷ []) star_in_parentheses
unfolding place_after
three_read = record {
  short = omega arith;
  few = omega arith;
  read = (record { line = 1; column = 4 }, token (40 ∷ []) refl paren_stands (token (42 ∷ []) refl star_stands (token (41 ∷ []) refl close_stands here)));
}

star_slice : IsSlice (40 ∷ 42 ∷ 41 ∷ []) (record { place = record { line = 1; column = 2 }; kind = t.Mark (42 ∷ []) })
unfolding place_after
star_slice = record {
  before = 40 ∷ [];
  spelling = 42 ∷ [];
  rest = 41 ∷ [];
  spelled = refl;
  at_place = refl;
  is_token = star_stands;
  longest = λ other beyond kind e k. sym (same_passed (42 ∷ 41 ∷ []) (42 ∷ []) other (41 ∷ []) beyond refl e (found_rest (t.Mark (42 ∷ [])) kind (41 ∷ []) beyond (sym (token_read star_stands) ∙ token_read k)));
}

pub three_cut : IsCutBehind (40 ∷ 42 ∷ 41 ∷ []) star_in_parentheses 1 (40 ∷ 42 ∷ [])
unfolding star_slice
three_cut = record { token = record { place = record { line = 1; column = 2 }; kind = t.Mark (42 ∷ []) }; is_nth = refl; slice = star_slice; spelled = refl }

abbrev place_first : Place → List Token → Place
place_first p [] = p
place_first p (t ∷ ts) = t.place

-- the two last tokens are at one place
last_place : (ts us : List Token) (p q : Place) → ts ++ paren_star p ≡ us ++ paren_star q → p ≡ q
last_place [] [] p q e = ap (place_first p) e
last_place [] (u ∷ us) p q e = absurd (omega (arith, ap length e, length-append us (paren_star q)))
last_place (t ∷ ts) [] p q e = absurd (omega (arith, ap length e, length-append ts (paren_star p)))
last_place (t ∷ ts) (u ∷ us) p q e = let tail : ts ++ paren_star p ≡ us ++ paren_star q = cc in last_place ts us p q tail

pub three_fault : IsFirstFault (40 ∷ 42 ∷ []) start 2
three_fault = elim (behind_read_or_open (40 ∷ 42 ∷ 41 ∷ []) (40 ∷ 42 ∷ []) star_in_parentheses 1 three_read three_cut) [
  | inl r ↦ absurd (r.1 start ([], refl))
  | inr o ↦ subst (λ (p : Place). IsFirstFault (40 ∷ 42 ∷ []) p 2) (sym (last_place [] o.1.0 start o.0 o.1.1)) o.2
]
