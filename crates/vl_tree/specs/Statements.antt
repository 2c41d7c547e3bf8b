-- The grammar of statements, with one rule for each alternative (IEEE 1364-2005, annex A.6), within bounds.
-- ReadsX x ts rest: at the front of ts stands an X, whose tree is x, and rest follows it.
use Rattle.std.specs.Prelude.{◌≡◌, ℕ, suc, ◌+◌, List, [], ◌∷◌, Option, Some, None, Bool, true, false, codes}
use Rattle.vl_tree.specs.declared.token.Token.{Token}
use Rattle.vl_tree.specs.declared.token.TokenKind.TheVariants as k
use Rattle.vl_tree.specs.declared.tree.Expression.{Expression}
use Rattle.vl_tree.specs.declared.tree.Select.{Select}
use Rattle.vl_tree.specs.declared.tree.Bound.{Bound}
use Rattle.vl_tree.specs.declared.tree.SelectMark.{SelectMark}
use Rattle.vl_tree.specs.declared.tree.SystemCall.{SystemCall}
use Rattle.vl_tree.specs.declared.tree.SystemArgument.{SystemArgument}
use Rattle.vl_tree.specs.MarksOfGrammar.{IsMark, IsKeyword, select_mark}
use Rattle.vl_tree.specs.Grammar.{first_place, ReadsExpression, name_of, select_of, bound_of, system_of, argument_of}
use Rattle.vl_tree.specs.declared.source_tree.Statement.{Statement}
use Rattle.vl_tree.specs.declared.source_tree.Statement.TheVariants as s
use Rattle.vl_tree.specs.declared.source_tree.CaseItem.{CaseItem}
use Rattle.vl_tree.specs.declared.source_tree.CaseItem.TheVariants as c
use Rattle.vl_tree.specs.declared.source_tree.CaseKeyword.{CaseKeyword}
use Rattle.vl_tree.specs.declared.source_tree.CaseKeyword.TheVariants as w
use Rattle.vl_tree.specs.declared.source_tree.AssignMark.{AssignMark}
use Rattle.vl_tree.specs.declared.source_tree.AssignMark.TheVariants as m
use Rattle.vl_tree.specs.declared.source_tree.Assignment.{Assignment}
use Rattle.vl_tree.specs.declared.source_tree.Lvalue.{Lvalue}
use Rattle.vl_tree.specs.declared.source_tree.Lvalue.TheVariants as l
use Rattle.vl_tree.specs.Bounds.{Bounds, MayBegin, MayReach, MayCount}
use Rattle.vl_tree.specs.Lists.{Next, ReadsOptional, ReadsList, ReadsParenthesized, ReadsMarkOrNothing}

-- an expression that stands in no other
pub record ReadsWhole (b : Bounds) (e : Expression) (ts rest : List Token) : Type 0 where
  pub reads : ReadsExpression e ts rest
  pub within : MayReach b ts rest

-- ---- left sides (annex A.8.5): each index is an expression of its own, and the other tokens of a left side count together;
-- the first number is how many of those stand before, the second how many stand up to the end

-- [ (":" | "+:" | "-:") expr ]
pub data ReadsIndexBound (b : Bounds) : ℕ → ℕ → Option Bound → List Token → List Token → Type 0 where
  no_bound : {n : ℕ} {ts : List Token} → ReadsIndexBound b n n None ts ts
  bound : {n : ℕ} {m : SelectMark} {e : Expression} {t : Token} {ts rest : List Token} → MayCount b (n + 1) (t ∷ ts) → select_mark t ≡ Some m → ReadsWhole b e ts rest → ReadsIndexBound b n (n + 1) (Some (bound_of m e)) (t ∷ ts) rest

-- { "[" expr [ (":" | "+:" | "-:") expr ] "]" }
pub data ReadsIndices (b : Bounds) : ℕ → ℕ → List Select → List Token → List Token → Type 0 where
  no_index : {n : ℕ} {ts : List Token} → ReadsIndices b n n [] ts ts
  index : {n m o : ℕ} {e : Expression} {to : Option Bound} {ss : List Select} {opening closing : Token} {ts us vs rest : List Token} → MayCount b (n + 1) (opening ∷ ts) → IsMark (codes "[") opening → ReadsWhole b e ts us → ReadsIndexBound b (n + 1) m to us (closing ∷ vs)
      → MayCount b (m + 1) (closing ∷ vs) → IsMark (codes "]") closing → ReadsIndices b (m + 1) o ss vs rest → ReadsIndices b n o (select_of opening.place e to ∷ ss) (opening ∷ ts) rest

mutual
  -- lvalue = id indices | "{" lvalue { "," lvalue } "}"
  pub data ReadsLvalue (b : Bounds) : ℕ → ℕ → Lvalue → List Token → List Token → Type 0 where
    name : {n m : ℕ} {i : List ℕ} {ss : List Select} {t : Token} {ts rest : List Token} → MayCount b (n + 1) (t ∷ ts) → t.kind ≡ k.Name i → ReadsIndices b (n + 1) m ss ts rest → ReadsLvalue b n m (l.Name (name_of t.place i ss)) (t ∷ ts) rest
    concatenation : {n m o : ℕ} {v : Lvalue} {vs : List Lvalue} {opening closing : Token} {ts us rest : List Token} → MayCount b (n + 1) (opening ∷ ts) → IsMark (codes "{") opening → ReadsLvalue b (n + 1) m v ts us → ReadsMoreLvalues b m o vs us (closing ∷ rest)
        → MayCount b (o + 1) (closing ∷ rest) → IsMark (codes "}") closing → ReadsLvalue b n (o + 1) (l.Concatenation opening.place (v ∷ vs)) (opening ∷ ts) rest

  -- { "," lvalue }
  pub data ReadsMoreLvalues (b : Bounds) : ℕ → ℕ → List Lvalue → List Token → List Token → Type 0 where
    no_more : {n : ℕ} {ts : List Token} → ReadsMoreLvalues b n n [] ts ts
    more : {n m o : ℕ} {v : Lvalue} {vs : List Lvalue} {comma : Token} {ts us rest : List Token} → MayCount b (n + 1) (comma ∷ ts) → IsMark (codes ",") comma → ReadsLvalue b (n + 1) m v ts us → ReadsMoreLvalues b m o vs us rest
        → ReadsMoreLvalues b n o (v ∷ vs) (comma ∷ ts) rest

-- a left side that stands in no other, with so many tokens that count
pub record ReadsTarget (b : Bounds) (v : Lvalue) (ts rest : List Token) : Type 0 where
  pub counted : ℕ
  pub reads : ReadsLvalue b 0 counted v ts rest

-- ---- statements

-- "case" | "casez"
pub data IsCaseKeyword : CaseKeyword → Token → Type 0 where
  case : {t : Token} → IsKeyword (codes "case") t → IsCaseKeyword w.Case t
  casez : {t : Token} → IsKeyword (codes "casez") t → IsCaseKeyword w.Casez t

-- "=" | "<="
pub data IsAssignMark : AssignMark → Token → Type 0 where
  blocking : {t : Token} → IsMark (codes "=") t → IsAssignMark m.Blocking t
  nonblocking : {t : Token} → IsMark (codes "<=") t → IsAssignMark m.Nonblocking t

-- [ ":" id ], which isn't kept
pub data ReadsLabel : List Token → List Token → Type 0 where
  no_label : {ts : List Token} → ReadsLabel ts ts
  label : {n : List ℕ} {colon t : Token} {rest : List Token} → IsMark (codes ":") colon → t.kind ≡ k.Name n → ReadsLabel (colon ∷ t ∷ rest) rest

-- lset = lvalue "=" expr
pub data ReadsAssignment (b : Bounds) : Assignment → List Token → List Token → Type 0 where
  assignment : {v : Lvalue} {e : Expression} {equal : Token} {ts us rest : List Token} → ReadsTarget b v ts (equal ∷ us) → IsMark (codes "=") equal → ReadsWhole b e us rest
      → ReadsAssignment b (record { place = first_place ts; target = v; value = e }) ts rest

-- sarg = [ expr ]
pub data ReadsWholeArgument (b : Bounds) : SystemArgument → List Token → List Token → Type 0 where
  argument : {e : Option Expression} {ts rest : List Token} → ReadsOptional (ReadsWhole b) e ts rest → ReadsWholeArgument b (argument_of e) ts rest

-- system [ "(" sarg { "," sarg } ")" ]
pub data ReadsSystemTask (b : Bounds) : SystemCall → List Token → List Token → Type 0 where
  system : {n : List ℕ} {given : Option (List SystemArgument)} {t : Token} {ts rest : List Token} → t.kind ≡ k.System n → ReadsOptional (ReadsParenthesized (ReadsList (ReadsWholeArgument b))) given ts rest
      → ReadsSystemTask b (system_of t.place n given) (t ∷ ts) rest

mutual
  -- stmt; d statements stand around it
  pub data ReadsStatement (b : Bounds) : ℕ → Statement → List Token → List Token → Type 0 where
    statement : {d : ℕ} {a : Statement} {ts rest : List Token} → MayBegin b (suc d) ts → ReadsInside b (suc d) a ts rest → ReadsStatement b d a ts rest

  -- stmt, by its alternatives; d statements stand around it, its own included
  pub data ReadsInside (b : Bounds) : ℕ → Statement → List Token → List Token → Type 0 where
    -- ";"
    null : {d : ℕ} {t : Token} {rest : List Token} → IsMark (codes ";") t → ReadsInside b d (s.Null t.place) (t ∷ rest) rest
    -- "begin" [ ":" id ] { stmt } "end"
    block : {d : ℕ} {inner : List Statement} {opening closing : Token} {ts us rest : List Token} → IsKeyword (codes "begin") opening → ReadsLabel ts us → ReadsStatements b d inner us (closing ∷ rest) → IsKeyword (codes "end") closing
        → ReadsInside b d (s.Block opening.place inner) (opening ∷ ts) rest
    -- "if" "(" expr ")" stmt, and no "else" follows
    when : {d : ℕ} {e : Expression} {a : Statement} {word : Token} {ts us rest : List Token} → IsKeyword (codes "if") word → ReadsParenthesized (ReadsWhole b) e ts us → ReadsStatement b d a us rest → (Next (IsKeyword (codes "else")) rest → ⊥)
        → ReadsInside b d (s.If word.place e a None) (word ∷ ts) rest
    -- "if" "(" expr ")" stmt "else" stmt
    when_else : {d : ℕ} {e : Expression} {a o : Statement} {word other : Token} {ts us vs rest : List Token} → IsKeyword (codes "if") word → ReadsParenthesized (ReadsWhole b) e ts us → ReadsStatement b d a us (other ∷ vs) → IsKeyword (codes "else") other → ReadsStatement b d o vs rest
        → ReadsInside b d (s.If word.place e a (Some o)) (word ∷ ts) rest
    -- ("case" | "casez") "(" expr ")" citem { citem } "endcase"
    cases : {d : ℕ} {word : CaseKeyword} {e : Expression} {after : Bool} {i : CaseItem} {others : List CaseItem} {t closing : Token} {ts us vs rest : List Token} → IsCaseKeyword word t → ReadsParenthesized (ReadsWhole b) e ts us
        → ReadsCaseItem b d true after i us vs → ReadsMoreCaseItems b d after others vs (closing ∷ rest) → IsKeyword (codes "endcase") closing
        → ReadsInside b d (s.Case t.place word e (i ∷ others)) (t ∷ ts) rest
    -- "for" "(" lset ";" expr ";" lset ")" stmt
    loop : {d : ℕ} {start step : Assignment} {e : Expression} {a : Statement} {word opening first second closing : Token} {ts us vs ws rest : List Token} → IsKeyword (codes "for") word → IsMark (codes "(") opening → ReadsAssignment b start ts (first ∷ us) → IsMark (codes ";") first
        → ReadsWhole b e us (second ∷ vs) → IsMark (codes ";") second → ReadsAssignment b step vs (closing ∷ ws) → IsMark (codes ")") closing → ReadsStatement b d a ws rest
        → ReadsInside b d (s.For word.place start e step a) (word ∷ opening ∷ ts) rest
    -- "repeat" "(" expr ")" stmt
    repeat : {d : ℕ} {e : Expression} {a : Statement} {word : Token} {ts us rest : List Token} → IsKeyword (codes "repeat") word → ReadsParenthesized (ReadsWhole b) e ts us → ReadsStatement b d a us rest
        → ReadsInside b d (s.Repeat word.place e a) (word ∷ ts) rest
    -- lvalue ("=" | "<=") expr ";"
    assign : {d : ℕ} {v : Lvalue} {kind : AssignMark} {e : Expression} {t closing : Token} {ts us rest : List Token} → ReadsTarget b v ts (t ∷ us) → IsAssignMark kind t → ReadsWhole b e us (closing ∷ rest) → IsMark (codes ";") closing
        → ReadsInside b d (s.Assign (first_place ts) v kind e) ts rest
    -- system [ "(" sarg { "," sarg } ")" ] ";"
    task : {d : ℕ} {call : SystemCall} {closing : Token} {ts rest : List Token} → ReadsSystemTask b call ts (closing ∷ rest) → IsMark (codes ";") closing
        → ReadsInside b d (s.System (first_place ts) call) ts rest

  -- { stmt }
  pub data ReadsStatements (b : Bounds) : ℕ → List Statement → List Token → List Token → Type 0 where
    no_statement : {d : ℕ} {ts : List Token} → ReadsStatements b d [] ts ts
    a_statement : {d : ℕ} {a : Statement} {others : List Statement} {ts us rest : List Token} → ReadsStatement b d a ts us → ReadsStatements b d others us rest → ReadsStatements b d (a ∷ others) ts rest

  -- citem; the first flag is whether it may be a default, the second whether a later one may
  pub data ReadsCaseItem (b : Bounds) : ℕ → Bool → Bool → CaseItem → List Token → List Token → Type 0 where
    -- expr { "," expr } ":" stmt
    labels : {d : ℕ} {may : Bool} {es : List Expression} {a : Statement} {colon : Token} {ts us rest : List Token} → ReadsList (ReadsWhole b) es ts (colon ∷ us) → IsMark (codes ":") colon → ReadsStatement b d a us rest
        → ReadsCaseItem b d may may (c.Labels (first_place ts) es a) ts rest
    -- "default" [ ":" ] stmt
    default : {d : ℕ} {a : Statement} {word : Token} {ts us rest : List Token} → IsKeyword (codes "default") word → ReadsMarkOrNothing (codes ":") ts us → ReadsStatement b d a us rest
        → ReadsCaseItem b d true false (c.Default word.place a) (word ∷ ts) rest

  -- { citem }; the flag is whether a default may come
  pub data ReadsMoreCaseItems (b : Bounds) : ℕ → Bool → List CaseItem → List Token → List Token → Type 0 where
    no_item : {d : ℕ} {may : Bool} {ts : List Token} → ReadsMoreCaseItems b d may [] ts ts
    an_item : {d : ℕ} {may after : Bool} {i : CaseItem} {others : List CaseItem} {ts us rest : List Token} → ReadsCaseItem b d may after i ts us → ReadsMoreCaseItems b d after others us rest → ReadsMoreCaseItems b d may (i ∷ others) ts rest
