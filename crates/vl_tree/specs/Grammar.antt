-- The grammar of expressions, with one rule for each alternative (IEEE 1364-2005, annex A.8).
-- ReadsX x ts rest: at the front of ts stands an X, whose tree is x, and rest follows it.
-- Each node has the place of its first token.
use Rattle.std.specs.Prelude.{◌≡◌, ℕ, List, [], ◌∷◌, Option, Some, None, codes}
use Rattle.vl_base.specs.declared.number.Number.{Number}
use Rattle.vl_base.specs.declared.place.Place.{Place}
use Rattle.vl_tree.specs.declared.token.Token.{Token}
use Rattle.vl_tree.specs.declared.token.TokenKind.TheVariants as k
use Rattle.vl_tree.specs.declared.tree.Expression.{Expression, roll-Expression}
use Rattle.vl_tree.specs.declared.tree.Choice.{Choice, roll-Choice}
use Rattle.vl_tree.specs.declared.tree.Binary.{Binary, roll-Binary}
use Rattle.vl_tree.specs.declared.tree.Link.{Link, roll-Link}
use Rattle.vl_tree.specs.declared.tree.Unary.{Unary, roll-Unary}
use Rattle.vl_tree.specs.declared.tree.Primary.{Primary}
use Rattle.vl_tree.specs.declared.tree.Primary.TheVariants as x
use Rattle.vl_tree.specs.declared.tree.Name.{Name, roll-Name}
use Rattle.vl_tree.specs.declared.tree.Select.{Select, roll-Select}
use Rattle.vl_tree.specs.declared.tree.Bound.{Bound, roll-Bound}
use Rattle.vl_tree.specs.declared.tree.SystemCall.{SystemCall, roll-SystemCall}
use Rattle.vl_tree.specs.declared.tree.SystemArgument.{SystemArgument, roll-SystemArgument}
use Rattle.vl_tree.specs.declared.tree.BinaryOperator.{BinaryOperator}
use Rattle.vl_tree.specs.declared.tree.UnaryMark.{UnaryMark}
use Rattle.vl_tree.specs.declared.tree.SelectMark.{SelectMark}
use Rattle.vl_tree.specs.MarksOfGrammar.{IsMark, binary_operator, unary_operator, select_mark}

-- the place of the first token
abbrev pub first_place : List Token → Place
first_place [] = record { line = 0; column = 0 }
first_place (t ∷ ts) = t.place

-- ---- the nodes, from their parts

abbrev pub expression_of : Place → Binary → Option Choice → Expression
expression_of p b c = roll-Expression (record { place = p; binary = b; choice = c })

abbrev pub choice_of : Expression → Expression → Choice
choice_of a b = roll-Choice (record { chosen = a; otherwise = b })

abbrev pub binary_of : Place → Unary → List Link → Binary
binary_of p f ls = roll-Binary (record { place = p; first = f; links = ls })

abbrev pub link_of : BinaryOperator → Unary → Link
link_of o f = roll-Link (record { operator = o; operand = f })

abbrev pub unary_of : Place → List UnaryMark → Primary → Unary
unary_of p os e = roll-Unary (record { place = p; operators = os; primary = e })

abbrev pub name_of : Place → List ℕ → List Select → Name
name_of p n ss = roll-Name (record { place = p; identifier = record { place = p; name = n }; selects = ss })

abbrev pub select_of : Place → Expression → Option Bound → Select
select_of p e b = roll-Select (record { place = p; first = e; second = b })

abbrev pub bound_of : SelectMark → Expression → Bound
bound_of m e = roll-Bound (record { mark = m; bound = e })

abbrev pub call_of : Place → List ℕ → List Expression → Primary
call_of p n es = x.Call (record { place = p; name = n }) es

abbrev pub system_of : Place → List ℕ → Option (List SystemArgument) → SystemCall
system_of p n given = roll-SystemCall (record { place = p; name = n; arguments = given })

abbrev pub argument_of : Option Expression → SystemArgument
argument_of e = roll-SystemArgument (record { argument = e })

-- ---- the productions

-- { "+" "-" "!" .. }: any number of unary operators
pub data ReadsOperators : List UnaryMark → List Token → List Token → Type 0 where
  no_operator : {ts : List Token} → ReadsOperators [] ts ts
  operator : {o : UnaryMark} {os : List UnaryMark} {t : Token} {ts rest : List Token} → unary_operator t ≡ Some o → ReadsOperators os ts rest → ReadsOperators (o ∷ os) (t ∷ ts) rest

mutual
  -- expr = binary [ "?" expr ":" expr ]
  pub data ReadsExpression : Expression → List Token → List Token → Type 0 where
    expression : {b : Binary} {c : Option Choice} {ts us rest : List Token} → ReadsBinary b ts us → ReadsChoice c us rest → ReadsExpression (expression_of (first_place ts) b c) ts rest

  pub data ReadsChoice : Option Choice → List Token → List Token → Type 0 where
    no_choice : {ts : List Token} → ReadsChoice None ts ts
    choice : {a b : Expression} {question colon : Token} {ts us rest : List Token} → IsMark (codes "?") question → ReadsExpression a ts (colon ∷ us) → IsMark (codes ":") colon → ReadsExpression b us rest
        → ReadsChoice (Some (choice_of a b)) (question ∷ ts) rest

  -- binary = unary { binop unary }
  pub data ReadsBinary : Binary → List Token → List Token → Type 0 where
    binary : {f : Unary} {ls : List Link} {ts us rest : List Token} → ReadsUnary f ts us → ReadsLinks ls us rest → ReadsBinary (binary_of (first_place ts) f ls) ts rest

  pub data ReadsLinks : List Link → List Token → List Token → Type 0 where
    no_link : {ts : List Token} → ReadsLinks [] ts ts
    link : {o : BinaryOperator} {f : Unary} {ls : List Link} {t : Token} {ts us rest : List Token} → binary_operator t ≡ Some o → ReadsUnary f ts us → ReadsLinks ls us rest
        → ReadsLinks (link_of o f ∷ ls) (t ∷ ts) rest

  -- unary = { unop } primary
  pub data ReadsUnary : Unary → List Token → List Token → Type 0 where
    unary : {os : List UnaryMark} {e : Primary} {ts us rest : List Token} → ReadsOperators os ts us → ReadsPrimary e us rest → ReadsUnary (unary_of (first_place ts) os e) ts rest

  -- primary
  pub data ReadsPrimary : Primary → List Token → List Token → Type 0 where
    number : {t : Token} {n : Number} {rest : List Token} → t.kind ≡ k.Number n → ReadsPrimary (x.Number t.place n) (t ∷ rest) rest
    string : {t : Token} {s : List ℕ} {rest : List Token} → t.kind ≡ k.Str s → ReadsPrimary (x.Str t.place s) (t ∷ rest) rest
    named : {n : Name} {ts rest : List Token} → ReadsName n ts rest → ReadsPrimary (x.Name n) ts rest
    -- "(" expr ")"
    parenthesized : {e : Expression} {opening closing : Token} {ts rest : List Token} → IsMark (codes "(") opening → ReadsExpression e ts (closing ∷ rest) → IsMark (codes ")") closing
        → ReadsPrimary (x.Parenthesized opening.place e) (opening ∷ ts) rest
    -- "{" expr { "," expr } "}"
    concatenation : {es : List Expression} {opening closing : Token} {ts rest : List Token} → IsMark (codes "{") opening → ReadsExpressions es ts (closing ∷ rest) → IsMark (codes "}") closing
        → ReadsPrimary (x.Concatenation opening.place es) (opening ∷ ts) rest
    -- "{" expr "{" expr { "," expr } "}" "}"
    replication : {n : Expression} {es : List Expression} {opening inner closing last : Token} {ts us rest : List Token} → IsMark (codes "{") opening → ReadsExpression n ts (inner ∷ us) → IsMark (codes "{") inner
        → ReadsExpressions es us (closing ∷ last ∷ rest) → IsMark (codes "}") closing → IsMark (codes "}") last → ReadsPrimary (x.Replication opening.place n es) (opening ∷ ts) rest
    -- id "(" expr { "," expr } ")"
    call : {n : List ℕ} {es : List Expression} {t opening closing : Token} {ts rest : List Token} → t.kind ≡ k.Name n → IsMark (codes "(") opening → ReadsExpressions es ts (closing ∷ rest) → IsMark (codes ")") closing
        → ReadsPrimary (call_of t.place n es) (t ∷ opening ∷ ts) rest
    system : {c : SystemCall} {ts rest : List Token} → ReadsSystemCall c ts rest → ReadsPrimary (x.System c) ts rest

  -- expr { "," expr }
  pub data ReadsExpressions : List Expression → List Token → List Token → Type 0 where
    expressions : {e : Expression} {es : List Expression} {ts us rest : List Token} → ReadsExpression e ts us → ReadsMore es us rest → ReadsExpressions (e ∷ es) ts rest

  pub data ReadsMore : List Expression → List Token → List Token → Type 0 where
    no_more : {ts : List Token} → ReadsMore [] ts ts
    more : {e : Expression} {es : List Expression} {comma : Token} {ts us rest : List Token} → IsMark (codes ",") comma → ReadsExpression e ts us → ReadsMore es us rest → ReadsMore (e ∷ es) (comma ∷ ts) rest

  -- name = id { "[" expr [ (":" | "+:" | "-:") expr ] "]" }
  pub data ReadsName : Name → List Token → List Token → Type 0 where
    name : {n : List ℕ} {ss : List Select} {t : Token} {ts rest : List Token} → t.kind ≡ k.Name n → ReadsSelects ss ts rest → ReadsName (name_of t.place n ss) (t ∷ ts) rest

  pub data ReadsSelects : List Select → List Token → List Token → Type 0 where
    no_select : {ts : List Token} → ReadsSelects [] ts ts
    select : {e : Expression} {b : Option Bound} {ss : List Select} {opening closing : Token} {ts us vs rest : List Token} → IsMark (codes "[") opening → ReadsExpression e ts us → ReadsBound b us (closing ∷ vs) → IsMark (codes "]") closing
        → ReadsSelects ss vs rest → ReadsSelects (select_of opening.place e b ∷ ss) (opening ∷ ts) rest

  pub data ReadsBound : Option Bound → List Token → List Token → Type 0 where
    no_bound : {ts : List Token} → ReadsBound None ts ts
    bound : {m : SelectMark} {e : Expression} {t : Token} {ts rest : List Token} → select_mark t ≡ Some m → ReadsExpression e ts rest → ReadsBound (Some (bound_of m e)) (t ∷ ts) rest

  -- system [ "(" sarg { "," sarg } ")" ]
  pub data ReadsSystemCall : SystemCall → List Token → List Token → Type 0 where
    system_alone : {n : List ℕ} {t : Token} {rest : List Token} → t.kind ≡ k.System n → ReadsSystemCall (system_of t.place n None) (t ∷ rest) rest
    system_call : {n : List ℕ} {a : SystemArgument} {others : List SystemArgument} {t opening closing : Token} {ts us rest : List Token} → t.kind ≡ k.System n → IsMark (codes "(") opening → ReadsArgument a ts us → ReadsArguments others us (closing ∷ rest) → IsMark (codes ")") closing
        → ReadsSystemCall (system_of t.place n (Some (a ∷ others))) (t ∷ opening ∷ ts) rest

  -- sarg = [ expr ]
  pub data ReadsArgument : SystemArgument → List Token → List Token → Type 0 where
    no_argument : {ts : List Token} → ReadsArgument (argument_of None) ts ts
    argument : {e : Expression} {ts rest : List Token} → ReadsExpression e ts rest → ReadsArgument (argument_of (Some e)) ts rest

  pub data ReadsArguments : List SystemArgument → List Token → List Token → Type 0 where
    no_more_arguments : {ts : List Token} → ReadsArguments [] ts ts
    more_arguments : {a : SystemArgument} {others : List SystemArgument} {comma : Token} {ts us rest : List Token} → IsMark (codes ",") comma → ReadsArgument a ts us → ReadsArguments others us rest → ReadsArguments (a ∷ others) (comma ∷ ts) rest
