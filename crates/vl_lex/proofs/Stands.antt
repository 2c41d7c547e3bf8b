-- At each place exactly one thing stands: a gap, a token or a fault.
use Rattle.std.proofs.Common.{◌≡◌, ℕ, ◌<◌, Bool, true, false, ◌==◌, ◌||◌, List, [], ◌∷◌, length, refl, sym, ap, subst, ◌∙◌, arith}
use Rattle.std.specs.Prelude.{MatchBool}
use Rattle.vl_tree.specs.declared.token.TokenKind.{TokenKind}
use Rattle.vl_lex.specs.declared.bytes.First.{First}
use Rattle.vl_lex.specs.declared.bytes.First.TheVariants as f
use Rattle.vl_tree.specs.Bytes.{is_figure}
use Rattle.vl_tree.specs.Gaps.{opens_block, opens_attribute}
use Rattle.vl_tree.specs.Tokens.{IsToken, keyword, name, escaped_name, system_name, plain, based, string, mark}
use Rattle.vl_tree.specs.Faults.{IsCause, NumberFault, IsFault}
use Rattle.vl_lex.specs.Reading.{first_of, next, next_by, Next, over, found, stuck}
use Rattle.vl_lex.proofs.NextLaws.{Says, IsOf, first_is, word_says, keyword_read, name_read, system_says, system_read, escaped_says, escaped_read}
use Rattle.vl_lex.proofs.StringLaws.{string_says, string_read}
use Rattle.vl_lex.proofs.GapLaws.{white_says, directive_says, gap_read, mark_read, other_says}
use Rattle.vl_lex.proofs.NumberLaws.{figure_says, apostrophe_says, based_read, plain_read, fault_read}

says_by : (x : First) (b : ℕ) (bs : List ℕ) → IsOf x b → Says (b ∷ bs) (next_by x b bs)
says_by f.White b bs h = white_says b bs h
says_by f.Letter b bs h = word_says b bs h
says_by f.Figure b bs h = figure_says b bs h
says_by f.Apostrophe b bs h = apostrophe_says b bs h
says_by f.Quote b bs h = string_says b bs h
says_by f.Dollar b bs h = system_says b bs h
says_by f.Backslash b bs h = escaped_says b bs h
says_by f.Grave b bs h = directive_says b bs h
says_by f.Other b bs h = other_says b bs h

-- what is read stands there
pub next_says : (b : ℕ) (bs : List ℕ) → Says (b ∷ bs) (next (b ∷ bs))
unfolding next
next_says b bs = says_by (first_of b) b bs (first_is b)

pub says : (text : List ℕ) → 0 < length text → Says text (next text)
says [] h = absurd (omega arith)
says (b ∷ bs) h = next_says b bs

-- a token that stands there is read
pub token_read : {text rest : List ℕ} {kind : TokenKind} → IsToken text kind rest → next text ≡ found kind rest
token_read {text} (keyword {word} {rest} e n ends r) = keyword_read text word rest e n ends r
token_read {text} (name {word} {rest} e n ends r) = name_read text word rest e n ends r
token_read {text} (escaped_name {word} {rest} e n ends) = escaped_read text word rest e n ends
token_read {text} (system_name {word} {rest} e n ends) = system_read text word rest e n ends
token_read {text} (plain {digits} {rest} k h) = plain_read text digits rest k h
token_read {text} (based {size} {tail} {digits} {rest} {signed} {radix} {n} b k e) = based_read text size tail digits rest signed radix n b k e
token_read {text} (string {bytes} {rest} k) = string_read text bytes rest k
token_read {text} (mark {mark} {rest} k o) = mark_read text mark rest k o

stuck_is : (c d : ℕ) → stuck c ≡ stuck d → c ≡ d
stuck_is c d e = cc

number_once : (text : List ℕ) (c d : ℕ) → NumberFault text c → NumberFault text d → c ≡ d
number_once text c d h k = stuck_is c d (sym (fault_read text c h) ∙ fault_read text d k)

once_by : (text : List ℕ) (x y z : Bool) (c d : ℕ)
    → MatchBool x (c ≡ 2) (MatchBool y (c ≡ 3) (MatchBool z (NumberFault text c) (c ≡ 1)))
    → MatchBool x (d ≡ 2) (MatchBool y (d ≡ 3) (MatchBool z (NumberFault text d) (d ≡ 1))) → c ≡ d
once_by text true y z c d h k = h ∙ sym k
once_by text false true z c d h k = h ∙ sym k
once_by text false false true c d h k = number_once text c d h k
once_by text false false false c d h k = h ∙ sym k

-- there is one cause at a place
pub cause_once : (text : List ℕ) (c d : ℕ) → IsCause text c → IsCause text d → c ≡ d
cause_once [] c d h k = absurd h
cause_once (b ∷ bs) c d h k = once_by (b ∷ bs) (opens_block (b ∷ bs) || opens_attribute (b ∷ bs)) (b == 34) (is_figure b || (b == 39)) c d h k

stuck_by : (text : List ℕ) (c : ℕ) (n : Next) → Says text n → next text ≡ n → IsFault text c → n ≡ stuck c
stuck_by text c (over rest) s e k = absurd (k.no_gap rest s.1)
stuck_by text c (found kind rest) s e k = absurd (k.no_token kind rest s.1)
stuck_by text c (stuck d) s e k = ap stuck (cause_once text d c s k.why)

-- a fault that stands there is read
pub stuck_read : (text : List ℕ) (c : ℕ) → IsFault text c → next text ≡ stuck c
stuck_read [] c k = absurd k.why
stuck_read (b ∷ bs) c k = stuck_by (b ∷ bs) c (next (b ∷ bs)) (next_says b bs) refl k

-- and one that is read stands there
pub fault_says : (text : List ℕ) (c : ℕ) → 0 < length text → next text ≡ stuck c → IsFault text c
fault_says text c h e = record {
  no_gap = λ after g. over_no_stuck (sym (gap_read text after g) ∙ e);
  no_token = λ kind after k. found_no_stuck (sym (token_read k) ∙ e);
  why = subst_says (next text) (says text h) e;
}
  where
    over_no_stuck : {after : List ℕ} → over after ≡ stuck c → ⊥
    over_no_stuck e = cc

    found_no_stuck : {kind : TokenKind} {after : List ℕ} → found kind after ≡ stuck c → ⊥
    found_no_stuck e = cc

    subst_says : (n : Next) → Says text n → n ≡ stuck c → IsCause text c
    subst_says n s e = subst (λ (n : Next). Says text n) e s
