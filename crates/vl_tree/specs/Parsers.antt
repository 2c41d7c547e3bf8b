-- Parsers as functions: what is read and the tokens after it, or the cause of the first fault and the tokens from it on.
-- Contracts of private functions cite them; public ones cite the grammar alone.
use Rattle.std.specs.Prelude.{◌≡◌, ℕ, zero, suc, ◌+◌, ◌-◌, nat_lt, List, [], ◌∷◌, ◌++◌, length, drop, Result, Ok, Err, Option, Some, None, Bool, true, false, cond, codes}
use Rattle.std.specs.Borrow.{Bor}
use Rattle.vl_base.specs.declared.place.Place.{Place}
use Rattle.vl_tree.specs.declared.token.Token.{Token}
use Rattle.vl_tree.specs.declared.token.TokenKind.{TokenKind}
use Rattle.vl_tree.specs.declared.token.TokenKind.TheVariants as k
use Rattle.vl_tree.specs.declared.tree.Identifier.{Identifier}
use Rattle.vl_tree.specs.Grammar.{first_place}
use Rattle.vl_tree.specs.Reading as plain
use Rattle.vl_tree.specs.Reading.{next_by, mark, keyword, is_next}
use Rattle.vl_tree.specs.Bounds.{most_tokens}
use Rattle.vl_tree.specs.declared.source_fault.Cause.{Cause}
use Rattle.vl_tree.specs.declared.source_fault.Cause.TheVariants.{Syntax, Tokens}
use Rattle.vl_tree.specs.declared.source_fault.Fault.{Fault}
use Rattle.vl_tree.specs.declared.source_fault.Fault.TheVariants as fault

-- ---- parsers

abbrev pub Outcome : Type 0 → Type 0
Outcome A = Result (A × List Token) (Cause × List Token)

abbrev pub Parser : Type 0 → Type 0
Parser A = List Token → Outcome A

abbrev pub and_then : {A B : Type 0} → Outcome A → (A → Parser B) → Outcome B
and_then (Ok p) f = f p.0 p.1
and_then (Err e) f = Err e

infixl 10 ◌>>=◌
abbrev pub ◌>>=◌ : {A B : Type 0} → Parser A → (A → Parser B) → Parser B
p >>= f = λ ts. and_then (p ts) f

abbrev pub pure : {A : Type 0} → A → Parser A
pure a = λ ts. Ok (a, ts)

abbrev pub fails : {A : Type 0} → Parser A
fails = λ ts. Err (Syntax, ts)

-- with these in front of what is read
abbrev pub with_front : {A : Type 0} → List A → Outcome (List A) → Outcome (List A)
with_front front read = and_then read (λ es. pure (front ++ es))

abbrev pub next_or : {X A : Type 0} → Option (X × List Token) → (X → Parser A) → Outcome A → Outcome A
next_or (Some x) p o = p x.0 x.1
next_or None p o = o

-- the first parser behind a token that f takes, and the second where another comes
abbrev pub if_next : {X A : Type 0} → (Token → Option X) → (X → Parser A) → Parser A → Parser A
if_next f p q = λ ts. next_or (next_by f ts) p (q ts)

-- a token that f takes has to come
abbrev pub must : {X A : Type 0} → (Token → Option X) → (X → Parser A) → Parser A
must f p = if_next f p fails

-- by the token that comes first, which stays
abbrev pub if_ahead : {A : Type 0} → (Token → Bool) → Parser A → Parser A → Parser A
if_ahead f p q = λ ts. cond (is_next f ts) (p ts) (q ts)

-- two parts of a node that has the place of its first token
abbrev pub placed : {A B C : Type 0} → (Place → A → B → C) → Parser A → Parser B → Parser C
placed make p q = λ ts. and_then (p ts) (λ a. q >>= λ b. pure (make (first_place ts) a b))

-- ---- tokens

abbrev pub is_some : {X : Type 0} → Option X → Bool
is_some None = false
is_some (Some x) = true

-- the token is this reserved word
abbrev pub is_word : List ℕ → Token → Bool
is_word w u = is_some (keyword w u)

-- the token is this mark
abbrev pub is_mark : List ℕ → Token → Bool
is_mark m u = is_some (mark m u)

abbrev pub identifier_by : Place → TokenKind → Option Identifier
identifier_by p (k.Name n) = Some (record { place = p; name = n })
identifier_by p _ = None

-- the name that a token is, with its place
unfoldable pub identifier_token : Token → Option Identifier
identifier_token t = identifier_by t.place t.kind

-- id
unfoldable pub identifier : Parser Identifier
identifier = must identifier_token (λ n. pure n)

-- [ word ], and whether it stands there
unfoldable pub word : List ℕ → Parser Bool
word w = if_next (keyword w) (λ _. pure true) (pure false)

-- ---- lists: the number of each is more than there are tokens

abbrev pub optional : {X A : Type 0} → (Token → Option X) → (X → Parser A) → Parser (Option A)
optional f p = if_next f (λ x. p x >>= λ a. pure (Some a)) (pure None)

-- "(" x ")"
abbrev pub parenthesized : {A : Type 0} → Parser A → Parser A
parenthesized p = must (mark (codes "(")) (λ _. p >>= λ a. must (mark (codes ")")) (λ _. pure a))

-- as many as there are, each behind a token that f takes
unfoldable pub many : {X A : Type 0} → (Token → Option X) → (X → Parser A) → ℕ → Parser (List A)
many f p zero = fails
many f p (suc n) = if_next f (λ x. p x >>= λ a. many f p n >>= λ others. pure (a ∷ others)) (pure [])

-- x { "," x }
unfoldable pub list : {A : Type 0} → Parser A → ℕ → Parser (List A)
list p n = p >>= λ a. many (mark (codes ",")) (λ _. p) n >>= λ others. pure (a ∷ others)

-- { x }, up to a token that ends it, which stays
unfoldable pub before : {A : Type 0} → (Token → Bool) → Parser A → ℕ → Parser (List A)
before f p zero = fails
before f p (suc n) = if_ahead f (pure []) (p >>= λ a. before f p n >>= λ others. pure (a ∷ others))

-- groups whose members stand between commas too: behind a comma either a group opens, or the last one gets a member
unfoldable pub groups : {G : Type 0} → (Token → Bool) → Parser G → (G → Parser G) → ℕ → G → Parser (List G)
groups opens head grow zero g = fails
groups opens head grow (suc n) g =
    if_next (mark (codes ",")) (λ _. if_ahead opens (head >>= λ h. groups opens head grow n h >>= λ gs. pure (g ∷ gs)) (grow g >>= λ h. groups opens head grow n h)) (pure (g ∷ []))

-- ---- tokens that count together: k of them stand before

-- the first parser behind a token that f takes, unless that is one too many, and the second where another comes
abbrev pub if_counted : {X A : Type 0} → ℕ → (Token → Option X) → (X → Parser A) → Parser A → Parser A
if_counted k f p q = λ ts. next_or (next_by f ts) (λ x us. cond (nat_lt k most_tokens) (p x us) (Err (Tokens, ts))) (q ts)

-- a token that f takes has to come, and counts
abbrev pub must_counted : {X A : Type 0} → ℕ → (Token → Option X) → (X → Parser A) → Parser A
must_counted k f p = if_counted k f p fails

-- as many as there are, each behind a token that f takes and that counts; each is given how many stand before, and gives how many stand up to its end
unfoldable pub many_counted : {X A : Type 0} → (Token → Option X) → (ℕ → X → Parser (A × ℕ)) → ℕ → ℕ → Parser (List A × ℕ)
many_counted f p zero k = fails
many_counted f p (suc n) k = if_counted k f (λ x. p (k + 1) x >>= λ a. many_counted f p n a.1 >>= λ others. pure (a.0 ∷ others.0, others.1)) (pure ([], k))

-- with these in front of what is read
abbrev pub with_counted_front : {A : Type 0} → List A → Outcome (List A × ℕ) → Outcome (List A × ℕ)
with_counted_front front read = and_then read (λ es. pure (front ++ es.0, es.1))

-- ---- what is read within a limit

-- how many tokens were taken
abbrev pub taken : {A : Type 0} → List Token → plain.Outcome A → ℕ
taken ts (Ok x) = length ts - length x.1
taken ts (Err us) = length ts - length us

-- what is read where nothing is limited
abbrev pub unlimited : {A : Type 0} → plain.Outcome A → Outcome A
unlimited (Ok x) = Ok x
unlimited (Err us) = Err (Syntax, us)

-- an expression of so many tokens at most
unfoldable pub limited : {A : Type 0} → ℕ → plain.Parser A → Parser A
limited most p = λ ts. cond (nat_lt most (taken ts (p ts))) (Err (Tokens, drop most ts)) (unlimited (p ts))

-- ---- what the functions of a parser give

-- the fault that a function gives is that of the reading, unless memory ran out
abbrev pub Fails : {A : Type 0} → Fault → Outcome A → Type 0
Fails (fault.At cause ts) read = read ≡ Err (cause, ts.now)
Fails fault.Memory read = Unit {0}

-- what a function gives is what is read
abbrev pub Gives : {A : Type 0} → Result (A × Bor (List Token)) Fault → Outcome A → Type 0
Gives (Ok x) read = read ≡ Ok (x.0, x.1.now)
Gives (Err e) read = Fails e read
