-- The steps of the lexer's loop, and that its answers are the only ones.
use Rattle.std.proofs.Common.{◌≡◌, ℕ, ◌+◌, ◌-◌, ◌<◌, ◌≤◌, ◌==◌, Bool, false, List, [], ◌∷◌, ◌++◌, length, take, Result, Ok, Err, refl, sym, ap, subst, ◌∙◌, arith}
use Rattle.std.specs.Prelude.{IfOk, IfErr}
use Rattle.std.specs.Global.{Vec}
use Rattle.std.proofs.lemmas.List.{append-nil, length-append, length-take, take_at}
use Rattle.std.proofs.lemmas.Bool.{true≢false}
use Rattle.vl_tree.specs.vl_base.specs.declared.place.Place.{Place}
use Rattle.vl_tree.specs.declared.token.Token.{Token}
use Rattle.vl_tree.specs.declared.token.TokenKind.{TokenKind}
use Rattle.vl_tree.specs.Tokens.{start, place_after, Passes, here, gap, token}
use Rattle.vl_tree.specs.Faults.{IsFault, IsCause, most_bytes, most_tokens, IsRead, IsFirstFault, IsFirstLimit, bytes, tokens}
use Rattle.vl_lex.specs.declared.lex.LexFault.{LexFault}
use Rattle.vl_lex.specs.declared.lex.LexFault.TheVariants.{At, Limit, Memory}
use Rattle.vl_lex.specs.Answers.{IsRefusal, Gives, Refuses}
use Rattle.vl_lex.specs.Reading.{next, Next, over, found, stuck}
use Rattle.vl_lex.proofs.NextLaws.{Says, Passed}
use Rattle.vl_lex.proofs.Values.{line_grows, column_grows}
use Rattle.vl_lex.proofs.Stands.{says, token_read, stuck_read, fault_says, cause_once}
use Rattle.vl_lex.proofs.PassLaws.{passes_then, same_stop, past_token, same_limit, next_nil, tokens_once}

-- ---- steps

-- what is passed, by the lengths
abbrev pub passed : List ℕ → List ℕ → List ℕ
passed text rest = take (length text - length rest) text

passed_splits : (text rest : List ℕ) → Passed text rest → text ≡ passed text rest ++ rest
passed_splits text rest p =
    let len : length p.bytes ≡ length text - length rest = omega (arith, ap length p.spelled, length-append p.bytes rest) in
    let front : passed text rest ≡ p.bytes = ap (take (length text - length rest)) p.spelled ∙ take_at p.bytes rest (length text - length rest) len in
    p.spelled ∙ ap (λ (s : List ℕ). s ++ rest) (sym front)

says_at : (text : List ℕ) (n : Next) → 0 < length text → n ≡ next text → Says text n
says_at text n h e = subst (λ (n : Next). Says text n) (sym e) (says text h)

pub gap_more : (text rest after : List ℕ) (ts : List Token) (p : Place) → Passes start text ts p rest → 0 < length rest → over after ≡ next rest → Passes start text ts (place_after p (passed rest after)) after
gap_more text rest after ts p h pos e =
    let s = says_at rest (over after) pos e in
    subst (λ (us : List Token). Passes start text us (place_after p (passed rest after)) after) (append-nil ts) (passes_then h (gap (passed rest after) (passed_splits rest after s.0) s.1 here))

pub token_more : (text rest after : List ℕ) (ts : List Token) (p : Place) (kind : TokenKind) → Passes start text ts p rest → 0 < length rest → found kind after ≡ next rest → Passes start text (ts ++ (record { place = p; kind = kind } ∷ [])) (place_after p (passed rest after)) after
token_more text rest after ts p kind h pos e =
    let s = says_at rest (found kind after) pos e in
    passes_then h (token (passed rest after) (passed_splits rest after s.0) s.1 here)

pub gap_shorter : (rest after : List ℕ) → 0 < length rest → over after ≡ next rest → length after < length rest
gap_shorter rest after pos e = (says_at rest (over after) pos e).0.shorter

pub token_shorter : (rest after : List ℕ) (kind : TokenKind) → 0 < length rest → found kind after ≡ next rest → length after < length rest
token_shorter rest after kind pos e = (says_at rest (found kind after) pos e).0.shorter

pub line_more : (rest after : List ℕ) (p : Place) (n : ℕ) → length after < length rest → p.line + length rest ≤ n → (place_after p (passed rest after)).line + length after ≤ n
line_more rest after p n h k = omega (arith, line_grows p (passed rest after), length-take (length rest - length after) rest)

pub column_more : (rest after : List ℕ) (p : Place) (n : ℕ) → length after < length rest → p.column + length rest ≤ n → (place_after p (passed rest after)).column + length after ≤ n
column_more rest after p n h k = omega (arith, column_grows p (passed rest after), length-take (length rest - length after) rest)

pub is_there : (rest : List ℕ) (b : Bool) → b ≡ (length rest == 0) → b ≡ false → 0 < length rest
is_there [] b e h = absurd (true≢false (sym e ∙ h))
is_there (c ∷ cs) b e h = omega arith

-- ---- the faults

pub fault_found : (text rest : List ℕ) (ts : List Token) (p : Place) (cause : ℕ) → length text ≤ most_bytes → length ts ≤ most_tokens → Passes start text ts p rest → 0 < length rest → stuck cause ≡ next rest → IsFirstFault text p cause
fault_found text rest ts p cause short few h pos e = record { before = ts; rest = rest; short = short; few = few; passes = h; fault = fault_says rest cause pos (sym e) }

pub limit_found : (text rest after : List ℕ) (ts : List Token) (p : Place) (kind : TokenKind) → length text ≤ most_bytes → length ts ≡ most_tokens → Passes start text ts p rest → 0 < length rest → found kind after ≡ next rest → IsFirstLimit text p 2
limit_found text rest after ts p kind short full h pos e = tokens short full h (says_at rest (found kind after) pos e).1 refl

pub read_found : (text : List ℕ) (ts : List Token) (p : Place) (rest : List ℕ) → length text ≤ most_bytes → length ts ≤ most_tokens → Passes start text ts p rest → rest ≡ [] → IsRead text ts
read_found text ts p rest short few h e = record { short = short; few = few; read = (p, subst (λ (r : List ℕ). Passes start text ts p r) e h) }

-- ---- no other answers

read_no_fault : {X : Type 0} (text : List ℕ) (ts : List Token) (p : Place) (cause : ℕ) → IsRead text ts → IsFirstFault text p cause → X
read_no_fault text ts p cause h k =
    let same = same_stop 1 cause h.read.1 next_nil k.passes (stuck_read k.rest cause k.fault) in
    absurd (nil_no_fault k.rest cause same.rest k.fault)
  where
    nil_no_fault : (rest : List ℕ) (cause : ℕ) → [] ≡ rest → IsFault rest cause → ⊥
    nil_no_fault [] cause e f = f.why
    nil_no_fault (b ∷ bs) cause e f = absurd cc

read_no_limit : {X : Type 0} (text : List ℕ) (ts : List Token) (p : Place) (n : ℕ) → IsRead text ts → IsFirstLimit text p n → X
read_no_limit text ts p n h (bytes long e f) = absurd (omega (arith, h.short))
read_no_limit text ts p n h (tokens {before} {rest} {after} {kind} short full k t e) = absurd (omega (arith, past_token kind after 1 k (token_read t) h.read.1 next_nil, h.few))

fault_no_limit : {X : Type 0} (text : List ℕ) (p q : Place) (cause n : ℕ) → IsFirstFault text p cause → IsFirstLimit text q n → X
fault_no_limit text p q cause n h (bytes long e f) = absurd (omega (arith, h.short))
fault_no_limit text p q cause n h (tokens {before} {rest} {after} {kind} short full k t e) = absurd (omega (arith, past_token kind after cause k (token_read t) h.passes (stuck_read h.rest cause h.fault), h.few))

fault_once : (text : List ℕ) (p q : Place) (c d : ℕ) → IsFirstFault text p c → IsFirstFault text q d → At p c ≡ At q d
fault_once text p q c d h k =
    let same = same_stop c d h.passes (stuck_read h.rest c h.fault) k.passes (stuck_read k.rest d k.fault) in
    let causes : c ≡ d = cause_once h.rest c d h.fault.why (subst (λ (r : List ℕ). IsCause r d) (sym same.rest) k.fault.why) in
    at_is p q c d same.place causes
  where
    at_is : (p q : Place) (c d : ℕ) → p ≡ q → c ≡ d → At p c ≡ At q d
    at_is p q c d e f = cc

limit_is : (p q : Place) (c d : ℕ) → p ≡ q → c ≡ d → Limit p c ≡ Limit q d
limit_is p q c d e f = cc

limit_once : (text : List ℕ) (p q : Place) (m n : ℕ) → IsFirstLimit text p m → IsFirstLimit text q n → Limit p m ≡ Limit q n
limit_once text p q m n (bytes long e f) (bytes long' e' f') = limit_is p q m n (e ∙ sym e') (f ∙ sym f')
limit_once text p q m n (bytes long e f) (tokens short full k t e') = absurd (omega arith)
limit_once text p q m n (tokens short full k t e) (bytes long e' f') = absurd (omega arith)
limit_once text p q m n (tokens {before} {rest} {after} {kind} short full k t e) (tokens {before = before'} {after = after'} {kind = kind'} short' full' k' t' e') =
    limit_is p q m n (same_limit kind kind' after after' k (token_read t) k' (token_read t') (full ∙ sym full')) (e ∙ sym e')

pub only_tokens : (text : List ℕ) (r : Result (Vec Token) LexFault) (ts : List Token) → IfOk r (λ v. IsRead text v.items) → IfErr r (IsRefusal text) → IsRead text ts → Gives r ts
only_tokens text (Ok v) ts h k g = tokens_once text v.items ts h.read g.read
only_tokens text (Err (At p c)) ts h k g = read_no_fault text ts p c g k
only_tokens text (Err (Limit p n)) ts h k g = read_no_limit text ts p n g k
only_tokens text (Err Memory) ts h k g = tt

pub only_fault : (text : List ℕ) (r : Result (Vec Token) LexFault) (p : Place) (c : ℕ) → IfOk r (λ v. IsRead text v.items) → IfErr r (IsRefusal text) → IsFirstFault text p c → Refuses r (At p c)
only_fault text (Ok v) p c h k g = read_no_fault text v.items p c h g
only_fault text (Err (At q d)) p c h k g = fault_once text q p d c k g
only_fault text (Err (Limit q n)) p c h k g = fault_no_limit text p q c n g k
only_fault text (Err Memory) p c h k g = tt

pub only_limit : (text : List ℕ) (r : Result (Vec Token) LexFault) (p : Place) (n : ℕ) → IfOk r (λ v. IsRead text v.items) → IfErr r (IsRefusal text) → IsFirstLimit text p n → Refuses r (Limit p n)
only_limit text (Ok v) p n h k g = read_no_limit text v.items p n h g
only_limit text (Err (At q d)) p n h k g = fault_no_limit text q p d n k g
only_limit text (Err (Limit q m)) p n h k g = limit_once text q p m n k g
only_limit text (Err Memory) p n h k g = tt
