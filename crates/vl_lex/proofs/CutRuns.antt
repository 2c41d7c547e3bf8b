-- A text that is cut behind a token or a gap: it is read as the tokens so far, or an attribute is open in it.
use Rattle.std.proofs.Common.{◌≡◌, ℕ, ◌<◌, ◌≤◌, true, false, not, ◌==◌, ◌||◌, List, [], ◌∷◌, ◌++◌, length, None, refl, sym, ap, subst, ◌∙◌, arith, ◌⊎◌, inl, inr}
use Rattle.std.specs.List.{list_all}
use Rattle.std.proofs.lemmas.Bool.{or_parts, and_parts, cond-true}
use Rattle.std.proofs.lemmas.Bool.Decides.{nat_tests}
use Rattle.std.proofs.lemmas.List.{append_assoc, append-nil, append_cancel_right, length-append}
use Rattle.vl_tree.specs.vl_base.specs.declared.place.Place.{Place}
use Rattle.vl_tree.specs.declared.token.Token.{Token}
use Rattle.vl_tree.specs.declared.token.TokenKind.{TokenKind}
use Rattle.vl_tree.specs.declared.token.TokenKind.TheVariants as t
use Rattle.vl_tree.specs.Bytes.{is_white, is_letter, is_figure, begins, past, Are}
use Rattle.vl_tree.specs.Gaps.{opens, opens_line, opens_block, opens_attribute, white}
use Rattle.vl_tree.specs.Tokens.{IsToken, start, next_place, place_after, Passes, here, gap, token, Tokens}
use Rattle.vl_tree.specs.Faults.{IsFault, IsFirstFault, most_bytes, most_tokens}
use Rattle.vl_lex.specs.Laws.{paren_star}
use Rattle.vl_lex.specs.Reading.{first_of, sign_of, next, Next, found, stuck, past_pair, other_at, mark_at}
use Rattle.vl_lex.proofs.RunLaws.{pair_goes, pair_none}
use Rattle.vl_lex.proofs.NextLaws.{Says}
use Rattle.vl_lex.proofs.Stands.{says, stuck_read, fault_says}
use Rattle.vl_lex.proofs.PassLaws.{Linear, first_on, second_on, linear, same_stop, next_nil, tokens_once}
use Rattle.vl_lex.proofs.TokenLaws.{token_long}
use Rattle.vl_lex.proofs.CutLaws.{cut, gap_cut, IsLeftOpen, token_cut}

-- ---- an attribute that is open

white_no_star : (b : ℕ) → is_white b ≡ true → b == 42 ≡ false
unfolding is_white
white_no_star b h = grind (arith, nat_tests)

no_pair : (space : List ℕ) → Are is_white space → past_pair 42 41 space ≡ None
no_pair [] h = pair_none 42 41
no_pair (b ∷ space) h = let parts = and_parts (is_white b) (list_all is_white space) h in pair_goes 42 41 b space (white_no_star b parts.0) ∙ no_pair space parts.1

past_white : (space : List ℕ) → Are is_white space → past is_white space ≡ []
unfolding past
past_white [] h = refl
past_white (b ∷ space) h = let parts = and_parts (is_white b) (list_all is_white space) h in cond-true (is_white b) _ _ parts.0 ∙ past_white space parts.1

space_opens : (space : List ℕ) → Are is_white space → opens_attribute (40 ∷ 42 ∷ space) ≡ true
unfolding opens_attribute
space_opens space h = ap (λ (s : List ℕ). not (begins 41 s)) (past_white space h)

open_stuck : (space : List ℕ) → Are is_white space → next (40 ∷ 42 ∷ space) ≡ stuck 2
unfolding next other_at first_of sign_of is_white is_letter is_figure opens_line opens_block
open_stuck space h = rw (space_opens space h, no_pair space h) refl

left_open : (text front : List ℕ) → IsLeftOpen text front → IsFault front 2
left_open text front l = fault_says front 2 (omega (arith, ap length l.spelled)) (ap next l.spelled ∙ open_stuck l.space l.is_space)

-- ---- the marks

pub paren_next : (rest : List ℕ) → opens (40 ∷ rest) ≡ false → next (40 ∷ rest) ≡ found (t.Mark (40 ∷ [])) rest
unfolding opens next other_at mark_at first_of sign_of is_white is_letter is_figure
paren_next rest h =
    let parts = or_parts (opens_line (40 ∷ rest)) (opens_block (40 ∷ rest) || opens_attribute (40 ∷ rest)) h in
    let parts2 = or_parts (opens_block (40 ∷ rest)) (opens_attribute (40 ∷ rest)) parts.1 in
    rw (parts.0, parts2.0, parts2.1) refl

pub star_next : (rest : List ℕ) → next (42 ∷ rest) ≡ found (t.Mark (42 ∷ [])) rest
unfolding next other_at mark_at first_of sign_of is_white is_letter is_figure opens_line opens_block opens_attribute
star_next rest = refl

pub found_stands : (text rest : List ℕ) (kind : TokenKind) → 0 < length text → next text ≡ found kind rest → IsToken text kind rest
found_stands text rest kind h e = (subst (λ (n : Next). Says text n) e (says text h)).1

pub white_run : (p : Place) (space rest : List ℕ) → Are is_white space → Passes p (space ++ rest) [] (place_after p space) rest
unfolding place_after
white_run p [] rest h = here
white_run p (b ∷ space) rest h =
    let parts = and_parts (is_white b) (list_all is_white space) h in
    gap (b ∷ []) refl (white {b = b} refl parts.0) (white_run (next_place p b) space rest parts.1)

-- where the text has `(*` and white space and no attribute begins, these are its tokens
paren_star_run : (p : Place) (space rest : List ℕ) → Are is_white space → opens (40 ∷ 42 ∷ (space ++ rest)) ≡ false → (q : Place) × Passes p (40 ∷ 42 ∷ (space ++ rest)) (paren_star p) q rest
unfolding place_after
paren_star_run p space rest h o =
    let paren = found_stands (40 ∷ 42 ∷ (space ++ rest)) (42 ∷ (space ++ rest)) (t.Mark (40 ∷ [])) (omega arith) (paren_next (42 ∷ (space ++ rest)) o) in
    let star = found_stands (42 ∷ (space ++ rest)) (space ++ rest) (t.Mark (42 ∷ [])) (omega arith) (star_next (space ++ rest)) in
    let behind : Place = place_after (place_after p (40 ∷ [])) (42 ∷ []) in
    (place_after behind space, token (40 ∷ []) refl paren (token (42 ∷ []) refl star (white_run behind space rest h)))

-- ---- runs

pub passes_back : {p q : Place} {text rest : List ℕ} {ts : List Token} → Passes p text ts q rest → (front : List ℕ) × (text ≡ front ++ rest)
passes_back here = ([], refl)
passes_back {rest = rest} (gap passed e g h) = let b = passes_back h in (passed ++ b.0, e ∙ ap (λ (s : List ℕ). passed ++ s) b.1 ∙ sym (append_assoc passed b.0 rest))
passes_back {rest = rest} (token passed e t h) = let b = passes_back h in (passed ++ b.0, e ∙ ap (λ (s : List ℕ). passed ++ s) b.1 ∙ sym (append_assoc passed b.0 rest))

-- a run with a token leaves less
leaves_less : {p q : Place} {text rest : List ℕ} {ts : List Token} → Passes p text ts q rest → (ts ≡ []) ⊎ (length rest < length text)
leaves_less here = inl refl
leaves_less {text = text} {rest = rest} (gap {after = after} passed e g h) = elim (leaves_less h) [
  | inl none ↦ inl none
  | inr less ↦ inr (omega (arith, ap length e, length-append passed after))
]
leaves_less {text = text} {rest = rest} (token {after = after} {kind = kind} passed e t h) =
    let b = passes_back h in
    inr (omega (arith, token_long text passed after kind e t, ap length e, length-append passed after, ap length b.1, length-append b.0 rest))

same_by : {q r : Place} {a b : List ℕ} {ts us : List Token} → a ≡ b → Linear ts q a us r b → ts ≡ us
same_by {ts = ts} e (first_on {vs = vs} h s) = elim (leaves_less h) [
  | inl none ↦ sym (s ∙ ap (λ (v : List Token). ts ++ v) none ∙ append-nil ts)
  | inr less ↦ absurd (omega (arith, ap length e))
]
same_by {us = us} e (second_on {vs = vs} h s) = elim (leaves_less h) [
  | inl none ↦ s ∙ ap (λ (v : List Token). us ++ v) none ∙ append-nil us
  | inr less ↦ absurd (omega (arith, ap length e))
]

-- two runs with the same ends have the same tokens
same_tokens : {p q r : Place} {text rest : List ℕ} {ts us : List Token} → Passes p text ts q rest → Passes p text us r rest → ts ≡ us
same_tokens h k = same_by refl (linear h k)

open_tokens : {p q : Place} {text rest : List ℕ} {ts : List Token} (front : List ℕ) → Passes p text ts q rest → text ≡ front ++ rest → IsLeftOpen text front → ts ≡ paren_star p
open_tokens {p} {q} {text} {rest} {ts} front h e l =
    let spelled : text ≡ 40 ∷ 42 ∷ (l.space ++ rest) = e ∙ ap (λ (s : List ℕ). s ++ rest) l.spelled in
    let run = paren_star_run p l.space rest l.is_space (ap opens (sym spelled) ∙ l.shut) in
    same_tokens (subst (λ (s : List ℕ). Passes p s ts q rest) spelled h) run.1

-- ---- the cut text

-- The text is a run up to an attribute that is open; the tokens of the whole text go on with `(` and `*`.
pub record Stops (p : Place) (front : List ℕ) (ts : List Token) : Type 0 where
  pub earlier : List Token
  pub place : Place
  pub rest : List ℕ
  pub passes : Passes p front earlier place rest
  pub fault : IsFault rest 2
  pub tokens : ts ≡ earlier ++ paren_star place

pub cut_run : {p q : Place} {text rest : List ℕ} {ts : List Token} → Passes p text ts q rest → (front : List ℕ) → text ≡ front ++ rest → ((r : Place) × Passes p front ts r []) ⊎ Stops p front ts
cut_run (here {p} {text}) front e =
    let nil : front ≡ [] = append_cancel_right front [] text (sym e) in
    inl (p, subst (λ (s : List ℕ). Passes p s [] p []) (sym nil) here)
cut_run {p} {q} {text} {rest} (gap {after = after} passed f g h) front e =
    let b = passes_back h in
    let split = cut text after front b.0 rest passed e b.1 f in
    let stands = gap_cut text after front b.0 rest g e b.1 in
    elim (cut_run h b.0 b.1) [
      | inl k ↦ inl (k.0, gap passed split stands k.1)
      | inr s ↦ inr (record { earlier = s.earlier; place = s.place; rest = s.rest; passes = gap passed split stands s.passes; fault = s.fault; tokens = s.tokens })
    ]
cut_run {p} {q} {text} {rest} (token {after = after} {kind = kind} {tokens = ts} passed f t h) front e =
    let b = passes_back h in
    let split = cut text after front b.0 rest passed e b.1 f in
    let one : Token = record { place = p; kind = kind } in
    elim (token_cut t front b.0 rest e b.1) [
      | inl stands ↦ elim (cut_run h b.0 b.1) [
        | inl k ↦ inl (k.0, token passed split stands k.1)
        | inr s ↦ inr (record { earlier = one ∷ s.earlier; place = s.place; rest = s.rest; passes = token passed split stands s.passes; fault = s.fault; tokens = ap (λ (ts : List Token). one ∷ ts) s.tokens })
      ]
      | inr l ↦ inr (record { earlier = []; place = p; rest = front; passes = here; fault = left_open text front l; tokens = open_tokens front (token passed f t h) e l })
    ]

pub few_earlier : (ts earlier others : List Token) → ts ≡ earlier ++ others → length ts ≤ most_tokens → length earlier ≤ most_tokens
few_earlier ts earlier others e h = omega (arith, ap length e, length-append earlier others)

pub stops_fault : (front : List ℕ) (ts : List Token) → length front ≤ most_bytes → length ts ≤ most_tokens → (s : Stops start front ts) → IsFirstFault front s.place 2
stops_fault front ts short few s = record { before = s.earlier; rest = s.rest; short = short; few = few_earlier ts s.earlier (paren_star s.place) s.tokens few; passes = s.passes; fault = s.fault }

-- past a limit too
pub no_other_tokens : (front rest : List ℕ) (end : Place) (ts us : List Token) → Passes start (front ++ rest) ts end rest → Tokens front us → us ≡ ts
no_other_tokens front rest end ts us h k = elim (cut_run h front refl) [
  | inl run ↦ tokens_once front us ts k run
  | inr s ↦ absurd (no_cause s.rest (same_stop 2 1 s.passes (stuck_read s.rest 2 s.fault) k.1 next_nil).rest s.fault)
]
  where
    no_cause : (rest : List ℕ) → rest ≡ [] → IsFault rest 2 → ⊥
    no_cause [] e f = f.why
    no_cause (b ∷ rest) e f = absurd cc
