-- Gaps and tokens in turn: one way to go on at each place.
use Rattle.std.proofs.Common.{◌≡◌, ℕ, ◌<◌, List, [], ◌∷◌, ◌++◌, length, refl, sym, ap, subst, ◌∙◌, arith, ◌⊎◌, inl, inr}
use Rattle.std.proofs.lemmas.List.{append-nil, length-append, append_cancel_right}
use Rattle.vl_tree.specs.vl_base.specs.declared.place.Place.{Place}
use Rattle.vl_tree.specs.declared.token.Token.{Token}
use Rattle.vl_tree.specs.declared.token.TokenKind.{TokenKind}
use Rattle.vl_tree.specs.Tokens.{place_after, Passes, here, gap, token, Tokens}
use Rattle.vl_lex.specs.Reading.{next, over, found, stuck}
use Rattle.vl_lex.proofs.GapLaws.{gap_read}
use Rattle.vl_lex.proofs.Stands.{token_read}

-- one run after the other
pub passes_then : {p q r : Place} {text mid rest : List ℕ} {ts us : List Token} → Passes p text ts q mid → Passes q mid us r rest → Passes p text (ts ++ us) r rest
passes_then here k = k
passes_then (gap passed e g h) k = gap passed e g (passes_then h k)
passes_then (token passed e t h) k = token passed e t (passes_then h k)

over_is : (a b : List ℕ) → over a ≡ over b → a ≡ b
over_is a b e = cc

found_kind : (k l : TokenKind) (a b : List ℕ) → found k a ≡ found l b → k ≡ l
found_kind k l a b e = cc

pub found_rest : (k l : TokenKind) (a b : List ℕ) → found k a ≡ found l b → a ≡ b
found_rest k l a b e = cc

over_no_found : {X : Type 0} (a b : List ℕ) (k : TokenKind) → over a ≡ found k b → X
over_no_found a b k e = absurd cc

-- what is left says what was passed
pub same_passed : (text passed other after beyond : List ℕ) → text ≡ passed ++ after → text ≡ other ++ beyond → after ≡ beyond → passed ≡ other
same_passed text passed other after beyond e k h = append_cancel_right passed other after (sym e ∙ k ∙ ap (λ (s : List ℕ). other ++ s) (sym h))

move : (p r : Place) (b : List ℕ) (us : List Token) (passed other after beyond : List ℕ) → passed ≡ other → after ≡ beyond → Passes (place_after p other) beyond us r b → Passes (place_after p passed) after us r b
move p r b us passed other after beyond e f h = subst (λ (x : List ℕ). Passes (place_after p x) after us r b) (sym e) (subst (λ (x : List ℕ). Passes (place_after p other) x us r b) (sym f) h)

-- of two runs from one place one goes on where the other ends
pub data Linear : List Token → Place → List ℕ → List Token → Place → List ℕ → Type 0 where
  first_on : {ts us vs : List Token} {q r : Place} {a b : List ℕ} → Passes q a vs r b → us ≡ ts ++ vs → Linear ts q a us r b
  second_on : {ts us vs : List Token} {q r : Place} {a b : List ℕ} → Passes r b vs q a → ts ≡ us ++ vs → Linear ts q a us r b

linear_push : {ts us : List Token} {q r : Place} {a b : List ℕ} (t : Token) → Linear ts q a us r b → Linear (t ∷ ts) q a (t ∷ us) r b
linear_push t (first_on h e) = first_on h (ap (λ (s : List Token). t ∷ s) e)
linear_push t (second_on h e) = second_on h (ap (λ (s : List Token). t ∷ s) e)

pub linear : {p q r : Place} {text a b : List ℕ} {ts us : List Token} → Passes p text ts q a → Passes p text us r b → Linear ts q a us r b
linear here k = first_on k refl
linear (gap passed e g h) here = second_on (gap passed e g h) refl
linear (token passed e t h) here = second_on (token passed e t h) refl
linear {p} {q} {r} {text} {a} {b} {ts} {us} (gap {after = after} passed e g h) (gap {after = beyond} other f k l) =
    let same = over_is after beyond (sym (gap_read text after g) ∙ gap_read text beyond k) in
    let bytes_same = same_passed text passed other after beyond e f same in
    linear h (move p r b us passed other after beyond bytes_same same l)
linear {text = text} (gap {after = after} passed e g h) (token {after = beyond} {kind = kind} other f k l) = over_no_found after beyond kind (sym (gap_read text after g) ∙ token_read k)
linear {text = text} (token {after = after} {kind = kind} passed e g h) (gap {after = beyond} other f k l) = over_no_found beyond after kind (sym (gap_read text beyond k) ∙ token_read g)
linear {p} {q} {r} {text} {a} {b} {ts} {us} (token {after = after} {kind = kind} {tokens = ts'} passed e g h) (token {after = beyond} {kind = other_kind} {tokens = us'} other f k l) =
    let both = sym (token_read g) ∙ token_read k in
    let same = found_rest kind other_kind after beyond both in
    let bytes_same = same_passed text passed other after beyond e f same in
    let one : Token = record { place = p; kind = kind } in
    let on = linear h (move p r b us' passed other after beyond bytes_same same l) in
    subst (λ (x : TokenKind). Linear (one ∷ ts') q a (record { place = p; kind = x } ∷ us') r b) (found_kind kind other_kind after beyond both) (linear_push one on)

-- ---- where nothing goes on

over_no_stuck : {X : Type 0} (a : List ℕ) (c : ℕ) → over a ≡ stuck c → X
over_no_stuck a c e = absurd cc

found_no_stuck : {X : Type 0} (k : TokenKind) (a : List ℕ) (c : ℕ) → found k a ≡ stuck c → X
found_no_stuck k a c e = absurd cc

-- a run that ends where it begins
pub record Stays (q : Place) (a : List ℕ) (vs : List Token) (r : Place) (b : List ℕ) : Type 0 where
  pub none : vs ≡ []
  pub place : r ≡ q
  pub rest : b ≡ a

stuck_stays : {q r : Place} {a b : List ℕ} {vs : List Token} (c : ℕ) → next a ≡ stuck c → Passes q a vs r b → Stays q a vs r b
stuck_stays c e here = record { none = refl; place = refl; rest = refl }
stuck_stays {a = a} c e (gap {after = after} passed f g h) = over_no_stuck after c (sym (gap_read a after g) ∙ e)
stuck_stays {a = a} c e (token {after = after} {kind = kind} passed f k h) = found_no_stuck kind after c (sym (token_read k) ∙ e)

-- where a token stands, a run stays or takes it
token_stays : {q r : Place} {a b : List ℕ} {vs : List Token} (k : TokenKind) (x : List ℕ) → next a ≡ found k x → Passes q a vs r b → (Stays q a vs r b) ⊎ (0 < length vs)
token_stays k x e here = inl (record { none = refl; place = refl; rest = refl })
token_stays {a = a} k x e (gap {after = after} passed f g h) = over_no_found after x k (sym (gap_read a after g) ∙ e)
token_stays k x e (token passed f t h) = inr (omega arith)

-- the same tokens, place and rest
pub record Same (ts : List Token) (q : Place) (a : List ℕ) (us : List Token) (r : Place) (b : List ℕ) : Type 0 where
  pub tokens : ts ≡ us
  pub place : q ≡ r
  pub rest : a ≡ b

stop_by : {q r : Place} {a b : List ℕ} {ts us : List Token} (c d : ℕ) → next a ≡ stuck c → next b ≡ stuck d → Linear ts q a us r b → Same ts q a us r b
stop_by {ts = ts} {us = us} c d e f (first_on g s) = let y = stuck_stays c e g in record { tokens = sym (s ∙ ap (λ (v : List Token). ts ++ v) y.none ∙ append-nil ts); place = sym y.place; rest = sym y.rest }
stop_by {ts = ts} {us = us} c d e f (second_on g s) = let y = stuck_stays d f g in record { tokens = s ∙ ap (λ (v : List Token). us ++ v) y.none ∙ append-nil us; place = y.place; rest = y.rest }

pub same_stop : {p q r : Place} {text a b : List ℕ} {ts us : List Token} (c d : ℕ) → Passes p text ts q a → next a ≡ stuck c → Passes p text us r b → next b ≡ stuck d → Same ts q a us r b
same_stop c d h e k f = stop_by c d e f (linear h k)

-- a run that stops goes past a place where a token stands
past_by : {q r : Place} {a b : List ℕ} {ts us : List Token} (k : TokenKind) (x : List ℕ) (d : ℕ) → next a ≡ found k x → next b ≡ stuck d → Linear ts q a us r b → length ts < length us
past_by {ts = ts} k x d e f (first_on {vs = vs} g s) = elim (token_stays k x e g) [
  | inl y ↦ found_no_stuck k x d (sym e ∙ ap next (sym y.rest) ∙ f)
  | inr pos ↦ omega (arith, ap length s, length-append ts vs)
]
past_by {ts = ts} k x d e f (second_on g s) = let y = stuck_stays d f g in found_no_stuck k x d (sym e ∙ ap next y.rest ∙ f)

pub past_token : {p q r : Place} {text a b : List ℕ} {ts us : List Token} (k : TokenKind) (x : List ℕ) (d : ℕ) → Passes p text ts q a → next a ≡ found k x → Passes p text us r b → next b ≡ stuck d → length ts < length us
past_token k x d h e g f = past_by k x d e f (linear h g)

-- two places behind as many tokens where a token stands are one
same_by : {q r : Place} {a b : List ℕ} {ts us : List Token} (k l : TokenKind) (x y : List ℕ) → next a ≡ found k x → next b ≡ found l y → length ts ≡ length us → Linear ts q a us r b → q ≡ r
same_by {ts = ts} k l x y e f len (first_on {vs = vs} g s) = elim (token_stays k x e g) [
  | inl z ↦ sym z.place
  | inr pos ↦ absurd (omega (arith, ap length s, length-append ts vs))
]
same_by {us = us} k l x y e f len (second_on {vs = vs} g s) = elim (token_stays l y f g) [
  | inl z ↦ z.place
  | inr pos ↦ absurd (omega (arith, ap length s, length-append us vs))
]

pub same_limit : {p q r : Place} {text a b : List ℕ} {ts us : List Token} (k l : TokenKind) (x y : List ℕ) → Passes p text ts q a → next a ≡ found k x → Passes p text us r b → next b ≡ found l y → length ts ≡ length us → q ≡ r
same_limit k l x y h e g f len = same_by k l x y e f len (linear h g)

-- ---- tokens once

pub next_nil : next [] ≡ stuck 1
unfolding next
next_nil = refl

pub tokens_once : (text : List ℕ) (ts us : List Token) → Tokens text ts → Tokens text us → ts ≡ us
tokens_once text ts us h k = (same_stop 1 1 h.1 next_nil k.1 next_nil).tokens
