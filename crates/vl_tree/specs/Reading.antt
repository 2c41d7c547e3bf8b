-- Parsers as functions: what is read and the tokens after it, or the tokens from the first fault on.
-- Contracts of private functions cite them; public ones cite the grammar alone.
use Rattle.std.specs.Prelude.{◌≡◌, ℕ, zero, suc, List, [], ◌∷◌, ◌++◌, Result, Ok, Err, Option, Some, None, Bool, true, false, cond}
use Rattle.std.specs.Str.{bytes_eq}
use Rattle.std.specs.Borrow.{Bor}
use Rattle.vl_base.specs.declared.place.Place.{Place}
use Rattle.vl_tree.specs.declared.token.Token.{Token}
use Rattle.vl_tree.specs.declared.token.TokenKind.{TokenKind}
use Rattle.vl_tree.specs.declared.token.TokenKind.TheVariants as k
use Rattle.vl_tree.specs.declared.fault.Fault.{Fault}
use Rattle.vl_tree.specs.declared.fault.Fault.TheVariants as fault
use Rattle.vl_tree.specs.Grammar.{first_place}

-- ---- tokens

abbrev pub behind : {X : Type 0} → List Token → Option X → Option (X × List Token)
behind us None = None
behind us (Some x) = Some (x, us)

-- what f gives for the first token, and the tokens after it
unfoldable pub next_by : {X : Type 0} → (Token → Option X) → List Token → Option (X × List Token)
next_by f [] = None
next_by f (u ∷ us) = behind us (f u)

abbrev pub place_if : Bool → Place → Option Place
place_if true p = Some p
place_if false p = None

abbrev pub mark_by : List ℕ → Place → TokenKind → Option Place
mark_by m p (k.Mark t) = place_if (bytes_eq t m) p
mark_by m p _ = None

-- the place of a token that is this mark
unfoldable pub mark : List ℕ → Token → Option Place
mark m u = mark_by m u.place u.kind

abbrev pub keyword_by : List ℕ → Place → TokenKind → Option Place
keyword_by m p (k.Keyword t) = place_if (bytes_eq t m) p
keyword_by m p _ = None

-- the place of a token that is this reserved word
unfoldable pub keyword : List ℕ → Token → Option Place
keyword m u = keyword_by m u.place u.kind

-- ---- parsers

abbrev pub Outcome : Type 0 → Type 0
Outcome A = Result (A × List Token) (List Token)

abbrev pub Parser : Type 0 → Type 0
Parser A = List Token → Outcome A

abbrev pub and_then : {A B : Type 0} → Outcome A → (A → Parser B) → Outcome B
and_then (Ok p) f = f p.0 p.1
and_then (Err e) f = Err e

infixl 10 ◌>>=◌
abbrev pub ◌>>=◌ : {A B : Type 0} → Parser A → (A → Parser B) → Parser B
p >>= f = λ ts. and_then (p ts) f

abbrev pub pure : {A : Type 0} → A → Parser A
pure a = λ ts. Ok (a, ts)

abbrev pub fails : {A : Type 0} → Parser A
fails = λ ts. Err ts

-- with these in front of what is read
abbrev pub with_front : {A : Type 0} → List A → Outcome (List A) → Outcome (List A)
with_front front read = and_then read (λ es. pure (front ++ es))

abbrev pub next_or : {X A : Type 0} → Option (X × List Token) → (X → Parser A) → Outcome A → Outcome A
next_or (Some x) p o = p x.0 x.1
next_or None p o = o

-- the first parser behind a token that f takes, and the second where another comes
abbrev pub if_next : {X A : Type 0} → (Token → Option X) → (X → Parser A) → Parser A → Parser A
if_next f p q = λ ts. next_or (next_by f ts) p (q ts)

-- a token that f takes has to come
abbrev pub must : {X A : Type 0} → (Token → Option X) → (X → Parser A) → Parser A
must f p = if_next f p fails

-- as many as there are, each behind a token that f takes; the number is more than there are tokens
unfoldable pub many : {X A : Type 0} → (Token → Option X) → (X → Parser A) → ℕ → Parser (List A)
many f p zero = fails
many f p (suc n) = if_next f (λ x. p x >>= λ a. many f p n >>= λ others. pure (a ∷ others)) (pure [])

-- two parts of a node that has the place of its first token
abbrev pub placed : {A B C : Type 0} → (Place → A → B → C) → Parser A → Parser B → Parser C
placed make p q = λ ts. and_then (p ts) (λ a. q >>= λ b. pure (make (first_place ts) a b))

-- a token that f takes comes first
abbrev pub is_next : (Token → Bool) → List Token → Bool
is_next f [] = false
is_next f (u ∷ us) = f u

-- by the token that comes first, which stays
abbrev pub if_ahead : {A : Type 0} → (Token → Bool) → Parser A → Parser A → Parser A
if_ahead f p q = λ ts. cond (is_next f ts) (p ts) (q ts)

-- ---- what the functions of a parser give

-- the fault that a function gives is what is read, unless memory ran out
abbrev pub Fails : {A : Type 0} → Fault → Outcome A → Type 0
Fails (fault.At ts) read = read ≡ Err ts.now
Fails fault.Memory read = Unit {0}

-- what a function gives is what is read
abbrev pub Gives : {A : Type 0} → Result (A × Bor (List Token)) Fault → Outcome A → Type 0
Gives (Ok x) read = read ≡ Ok (x.0, x.1.now)
Gives (Err e) read = Fails e read
