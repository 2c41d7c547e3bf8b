-- Functions: what is read follows the grammar, and what the grammar derives is read.
use Rattle.std.proofs.Common.{◌≡◌, ℕ, ◌+◌, ◌<◌, ◌≤◌, Bool, true, false, cond, length, List, [], ◌∷◌, ◌++◌, Option, Some, None, refl, ap, subst, arith, ◌∙◌}
use Rattle.std.specs.Prelude.{codes}
use Rattle.std.specs.Str.{bytes_eq}
use Rattle.std.proofs.lemmas.Slice.Eq.{bytes_eq-Decides}
use Rattle.vl_tree.specs.declared.token.Token.{Token}
use Rattle.vl_tree.specs.declared.token.TokenKind.{TokenKind}
use Rattle.vl_tree.specs.declared.token.TokenKind.TheVariants as k
use Rattle.vl_tree.specs.declared.tree.Identifier.{Identifier}
use Rattle.vl_tree.specs.MarksOfGrammar.{IsMark, IsKeyword}
use Rattle.vl_tree.specs.Reading.{next_by, is_next, mark, keyword}
use Rattle.vl_tree.proofs.MarkLemmas.{mark_here, mark_some}
use Rattle.vl_tree.proofs.Complete.{none_here}
use Rattle.vl_tree.specs.declared.source_tree.ParameterType.{ParameterType}
use Rattle.vl_tree.specs.declared.source_tree.Function.{Function}
use Rattle.vl_tree.specs.declared.source_tree.FunctionPort.{FunctionPort}
use Rattle.vl_tree.specs.declared.source_tree.FunctionDeclaration.{FunctionDeclaration}
use Rattle.vl_tree.specs.declared.source_tree.FunctionDeclaration.TheVariants as fd
use Rattle.vl_tree.specs.declared.source_tree.Statement.{Statement}
use Rattle.vl_tree.specs.Bounds.{Bounds, most_statements}
use Rattle.vl_tree.specs.Lists.{ReadsOptional, ReadsMany, ReadsList, ReadsParenthesized, ReadsWord, ReadsIdentifier}
use Rattle.vl_tree.specs.Statements.{ReadsStatement}
use Rattle.vl_tree.specs.GrammarOfSource.{ReadsRange, ReadsParameterType, ReadsFunctionPort, ReadsFunctionDeclaration, ReadsFunction}
use Rattle.vl_tree.specs.Parsers.{Parser, ◌>>=◌, pure, must, optional, is_word, identifier, many, list}
use Rattle.vl_tree.specs.Parsing.{whole, target, outer, optional_range, parameter_type, function_port_of, function_port_head, function_port_grow, function_ports, input_declaration, reg_declaration, integer_declaration, declaration_by_keyword, declaration_by_kind, declaration_by, function_of, function_header, function}
use Rattle.vl_tree.proofs.Words.{keyword_some, keyword_here}
use Rattle.vl_tree.proofs.FollowsOfSource.{Relation, Follows, Then, After, Nothing, bounds, follows_weaker, follows_pure, follows_bind, follows_mark, follows_keyword}
use Rattle.vl_tree.proofs.FollowsLists.{Closed, follows_identifier, follows_word, follows_optional, follows_closed, closed_parenthesized, follows_list, follows_each, follows_groups, list_of_groups, list_grows}
use Rattle.vl_tree.proofs.Completing.{Reads, Opens, ReadsGrown, read_now, reads_bind, reads_optional, reads_list, reads_each, reads_groups, groups_of_list, identifier_reads, word_reads, mark_next, mark_apart, keyword_next, keyword_apart}
use Rattle.vl_tree.proofs.Lvalues.{follows_whole, follows_target}
use Rattle.vl_tree.proofs.StatementsShorter.{shorter_statement}
use Rattle.vl_tree.proofs.StatementsFollow.{follows_statement}
use Rattle.vl_tree.proofs.StatementsComplete.{first_token, statement_starts, reads_statement}
use Rattle.vl_tree.proofs.PartsOfSource.{not_ahead, ahead, shorter_identifier, no_longer_word, no_longer_optional, no_longer_many, shorter_list, no_longer_list, shorter_parenthesized, Named, named_identifier, named_list, named_no_word, named_no_mark, word_no_word, grown_of_list}
use Rattle.vl_tree.proofs.Declarations.{follows_optional_range, follows_parameter_type, no_longer_optional_range, no_longer_type, range_no_word, reads_optional_range, reads_parameter_type}

-- ---- ports

-- h is g with one more name
abbrev NameGrows : FunctionPort → Relation FunctionPort
NameGrows g b h ts rest = (i : Identifier) × ReadsIdentifier i ts rest × (h ≡ record { place = g.place; kind = g.kind; names = g.names ++ i ∷ [] })

grow_names : (b : Bounds) (g h : FunctionPort) (comma : Token) (ts us vs : List Token) → ReadsFunctionPort b g ts (comma ∷ us) → IsMark (codes ",") comma → NameGrows g b h us vs → ReadsFunctionPort b h ts vs
grow_names b g h comma ts us vs (ReadsFunctionPort.port w d ls) c (i, q, e) = rw e (ReadsFunctionPort.port w d (list_grows ReadsIdentifier ls c q))

-- behind a token
abbrev DeclarationBehind : Token → Relation FunctionDeclaration
DeclarationBehind v b a ts rest = ReadsFunctionDeclaration b a (v ∷ ts) rest

-- ---- what is read follows the grammar

-- a statement that stands in no other
pub follows_outer : (n : ℕ) → Follows (λ b. ReadsStatement b 0) (outer n)
follows_outer n = follows_statement (whole n) (target n) n (follows_whole n) (follows_target n) most_statements 0 (omega arith)

module _ (n : ℕ) where
  follows_port_head : Follows ReadsFunctionPort (function_port_head (whole n) (target n) n)
  unfolding function_port_head
  follows_port_head = follows_weaker (λ b a ts rest (v, us, p, e, h, (kind, vs, x, (i, ws, q, (j, g)))). let w = keyword_some (codes "input") v p h in rw (e, j, w.1) (ReadsFunctionPort.port w.0 x (ReadsList.last (rw g at q))))
      (follows_keyword (codes "input") (λ p. Then ReadsParameterType (λ kind. Then (λ _. ReadsIdentifier) (λ i. Nothing (function_port_of (whole n) (target n) n p kind (i ∷ []))))) _ refl refl
      (λ p. follows_bind ReadsParameterType _ (parameter_type (whole n) (target n) n) _ (follows_parameter_type n) (λ kind. follows_bind (λ _. ReadsIdentifier) _ identifier _ follows_identifier (λ i. follows_pure (function_port_of (whole n) (target n) n p kind (i ∷ []))))))

  follows_port_grow : (g : FunctionPort) → Follows (NameGrows g) (function_port_grow (whole n) (target n) n g)
  unfolding function_port_grow
  follows_port_grow g = follows_weaker (λ b a ts rest (i, us, q, (j, e)). (i, rw e at q, j)) (follows_bind (λ _. ReadsIdentifier) _ identifier _ follows_identifier (λ i. follows_pure (function_port_of (whole n) (target n) n g.place g.kind (g.names ++ i ∷ []))))

  follows_ports : Follows (λ b. ReadsList (ReadsFunctionPort b)) (function_ports (whole n) (target n) n)
  unfolding function_ports
  follows_ports = follows_weaker (λ b gs ts rest (h, us, q, f). list_of_groups (ReadsFunctionPort b) (ReadsFunctionPort b) (λ x. NameGrows x b) (λ g ts us d. d) (grow_names b) q f)
      (follows_bind ReadsFunctionPort _ (function_port_head (whole n) (target n) n) _ follows_port_head
      (λ h. follows_groups (is_word (codes "input")) ReadsFunctionPort NameGrows (function_port_head (whole n) (target n) n) (function_port_grow (whole n) (target n) n) follows_port_head follows_port_grow n h))

  -- ports in parentheses and ";", or ";"
  abbrev Header : Relation (Option (List FunctionPort))
  Header = Then (λ b. ReadsOptional (ReadsParenthesized (ReadsList (ReadsFunctionPort b)))) (λ xs. After (mark (codes ";")) (λ _ _. Nothing xs))

  follows_header : Follows Header (function_header (whole n) (target n) n)
  unfolding function_header
  follows_header = follows_bind (λ b. ReadsOptional (ReadsParenthesized (ReadsList (ReadsFunctionPort b)))) _ (optional (mark (codes "(")) (λ _. function_ports (whole n) (target n) n >>= λ xs. must (mark (codes ")")) (λ _. pure xs))) _
      (follows_optional (mark (codes "(")) (λ _ _. Closed (λ b. ReadsList (ReadsFunctionPort b))) (λ b. ReadsParenthesized (ReadsList (ReadsFunctionPort b))) _ (λ v x h. follows_closed (λ b. ReadsList (ReadsFunctionPort b)) (function_ports (whole n) (target n) n) follows_ports)
      (λ b v x a ts rest h d. closed_parenthesized (λ b. ReadsList (ReadsFunctionPort b)) b v x a ts rest h d))
      (λ xs. follows_mark (codes ";") (Nothing xs) _ refl (follows_pure xs))

  names : Follows (λ _. ReadsList ReadsIdentifier) (list identifier n)
  names = follows_list (λ _. ReadsIdentifier) identifier follows_identifier n

  follows_input : (v : Token) → IsKeyword (codes "input") v → Follows (DeclarationBehind v) (input_declaration (whole n) (target n) n v.place)
  unfolding input_declaration
  follows_input v h = follows_weaker (λ b a ts rest (kind, us, x, (is, vs, f, (w, ws, p, e, j, (o, z)))). rw o (ReadsFunctionDeclaration.input_declaration (ReadsFunctionPort.port h x (rw (e, z) at f)) (mark_some (codes ";") w p j).0))
      (follows_bind ReadsParameterType _ (parameter_type (whole n) (target n) n) _ (follows_parameter_type n) (λ kind. follows_bind (λ _. ReadsList ReadsIdentifier) _ (list identifier n) _ names
      (λ is. follows_mark (codes ";") (Nothing (fd.Input (function_port_of (whole n) (target n) n v.place kind is))) _ refl (follows_pure (fd.Input (function_port_of (whole n) (target n) n v.place kind is))))))

  follows_reg : (v : Token) → IsKeyword (codes "reg") v → Follows (DeclarationBehind v) (reg_declaration (whole n) (target n) n v.place)
  unfolding reg_declaration
  follows_reg v h = follows_weaker (λ b a ts rest (signed, us, x, (r, vs, y, (is, ws, f, (w, xs, p, e, j, (o, z))))). rw o (ReadsFunctionDeclaration.reg_declaration h x y (rw (e, z) at f) (mark_some (codes ";") w p j).0))
      (follows_bind (λ _. ReadsWord (codes "signed")) _ _ _ (follows_word (codes "signed")) (λ signed. follows_bind (λ b. ReadsOptional (ReadsRange b)) _ (optional_range (whole n) (target n) n) _ (follows_optional_range n)
      (λ r. follows_bind (λ _. ReadsList ReadsIdentifier) _ (list identifier n) _ names (λ is. follows_mark (codes ";") (Nothing (fd.Reg v.place signed r is)) _ refl (follows_pure (fd.Reg v.place signed r is))))))

  follows_integer : (v : Token) → IsKeyword (codes "integer") v → Follows (DeclarationBehind v) (integer_declaration (whole n) (target n) n v.place)
  unfolding integer_declaration
  follows_integer v h = follows_weaker (λ b a ts rest (is, ws, f, (w, xs, p, e, j, (o, z))). rw o (ReadsFunctionDeclaration.integer_declaration h (rw (e, z) at f) (mark_some (codes ";") w p j).0))
      (follows_bind (λ _. ReadsList ReadsIdentifier) _ (list identifier n) _ names (λ is. follows_mark (codes ";") (Nothing (fd.Integer v.place is)) _ refl (follows_pure (fd.Integer v.place is))))

  -- the declaration by this word, or what a choice among the others gives
  either_declaration : (v : Token) (m name : List ℕ) (p : Parser FunctionDeclaration) (others : Option (Parser FunctionDeclaration)) (q : Parser FunctionDeclaration) → IsKeyword name v → (IsKeyword m v → Follows (DeclarationBehind v) p) → (others ≡ Some q → Follows (DeclarationBehind v) q)
      → cond (bytes_eq name m) (Some p) others ≡ Some q → Follows (DeclarationBehind v) q
  either_declaration v m name p others q h l r e = go (bytes_eq name m) refl e
    where
      go : (b : Bool) → bytes_eq name m ≡ b → cond b (Some p) others ≡ Some q → Follows (DeclarationBehind v) q
      go true g f = let z : p ≡ q = cc in subst (λ x. Follows (DeclarationBehind v) x) z (l (h ∙ ap k.Keyword ((bytes_eq-Decides name m).0 g)))
      go false g f = r f

  by_word : (v : Token) (name : List ℕ) → IsKeyword name v → (q : Parser FunctionDeclaration) → declaration_by_keyword (whole n) (target n) n v.place name ≡ Some q → Follows (DeclarationBehind v) q
  by_word v name h q e = either_declaration v (codes "input") name _ _ q h (follows_input v) (λ e. either_declaration v (codes "reg") name _ _ q h (follows_reg v) (λ e. either_declaration v (codes "integer") name _ _ q h (follows_integer v) (λ e. let z : ⊥ = cc e in absurd z) e) e) e

  by_kind : (v : Token) (kind : TokenKind) → v.kind ≡ kind → (q : Parser FunctionDeclaration) → declaration_by_kind (whole n) (target n) n v.place kind ≡ Some q → Follows (DeclarationBehind v) q
  by_kind v (k.Keyword name) h q e = by_word v name h q e
  by_kind v (k.Number name) h q e = let z : ⊥ = cc in absurd z
  by_kind v (k.Str name) h q e = let z : ⊥ = cc in absurd z
  by_kind v (k.Name name) h q e = let z : ⊥ = cc in absurd z
  by_kind v (k.System name) h q e = let z : ⊥ = cc in absurd z
  by_kind v (k.Mark name) h q e = let z : ⊥ = cc in absurd z

  follows_declaration_by : (v : Token) (q : Parser FunctionDeclaration) → declaration_by (whole n) (target n) n v ≡ Some q → Follows (DeclarationBehind v) q
  unfolding declaration_by
  follows_declaration_by v q e = by_kind v v.kind refl q e

  follows_declarations : Follows (λ b. ReadsMany (ReadsFunctionDeclaration b)) (many (declaration_by (whole n) (target n) n) (λ q. q) n)
  follows_declarations = follows_each (declaration_by (whole n) (target n) n) (λ v _. DeclarationBehind v) ReadsFunctionDeclaration (λ q. q) (λ v q h. follows_declaration_by v q h) (λ b v x a ts rest h d. d) n

  pub follows_function : (v : Token) → IsKeyword (codes "function") v → Follows (λ b a ts rest. ReadsFunction b a (v ∷ ts) rest) (function (whole n) (target n) n (outer n) v.place)
  unfolding function
  follows_function v h = follows_weaker (λ b y ts rest (automatic, us, d, (kind, vs, f, (i, ws, g, (ports, xs, (p2, ys, o, (w, zs, p, e, j, (o1, z1))), (ds, ts1, r, (a, us1, q, (last, us2, p1, e1, j1, (o2, z2)))))))).
      rw o2 (ReadsFunction.function_of h d f g (rw (e, ← o1, z1) at o) (mark_some (codes ";") w p j).0 r (rw (e1, z2) at q) (keyword_some (codes "endfunction") last p1 j1).0))
      (follows_bind (λ _. ReadsWord (codes "automatic")) _ _ _ (follows_word (codes "automatic")) (λ automatic. follows_bind ReadsParameterType _ (parameter_type (whole n) (target n) n) _ (follows_parameter_type n)
      (λ kind. follows_bind (λ _. ReadsIdentifier) _ identifier _ follows_identifier (λ i. follows_bind Header _ (function_header (whole n) (target n) n) _ follows_header
      (λ xs. follows_bind (λ b. ReadsMany (ReadsFunctionDeclaration b)) _ (many (declaration_by (whole n) (target n) n) (λ q. q) n) _ follows_declarations (λ ds. follows_bind (λ b. ReadsStatement b 0) _ (outer n) _ (follows_outer n)
      (λ a. follows_keyword (codes "endfunction") (λ _. Nothing (function_of (whole n) (target n) n v.place automatic kind i xs ds a)) _ refl refl (λ _. follows_pure (function_of (whole n) (target n) n v.place automatic kind i xs ds a)))))))))

-- ---- how many tokens are left

module _ {b : Bounds} where
  shorter_port : {a : FunctionPort} {ts rest : List Token} → ReadsFunctionPort b a ts rest → length rest < length ts
  shorter_port (ReadsFunctionPort.port w x q) = omega (arith, no_longer_type x, shorter_list ReadsIdentifier (λ a ts rest d. shorter_identifier d) q)

  shorter_declaration : {a : FunctionDeclaration} {ts rest : List Token} → ReadsFunctionDeclaration b a ts rest → length rest < length ts
  shorter_declaration (ReadsFunctionDeclaration.input_declaration q i) = omega (arith, shorter_port q)
  shorter_declaration (ReadsFunctionDeclaration.reg_declaration h x y q i) = omega (arith, no_longer_word x, no_longer_optional_range y, shorter_list ReadsIdentifier (λ a ts rest d. shorter_identifier d) q)
  shorter_declaration (ReadsFunctionDeclaration.integer_declaration h q i) = omega (arith, shorter_list ReadsIdentifier (λ a ts rest d. shorter_identifier d) q)

  no_longer_ports : {a : Option (List FunctionPort)} {ts rest : List Token} → ReadsOptional (ReadsParenthesized (ReadsList (ReadsFunctionPort b))) a ts rest → length rest ≤ length ts
  no_longer_ports q = no_longer_optional (ReadsParenthesized (ReadsList (ReadsFunctionPort b)))
      (λ a ts rest d. shorter_parenthesized (ReadsList (ReadsFunctionPort b)) (λ a ts rest d. no_longer_list (ReadsFunctionPort b) (λ a ts rest d. omega (arith, shorter_port d)) d) d) q

  pub shorter_function : {a : Function} {ts rest : List Token} → ReadsFunction b a ts rest → length rest < length ts
  shorter_function (ReadsFunction.function_of h d f g o i r q j) =
      omega (arith, no_longer_word d, no_longer_type f, shorter_identifier g, no_longer_ports o, no_longer_many (ReadsFunctionDeclaration b) (λ a ts rest d. shorter_declaration d) r, shorter_statement q)

-- ---- a port, from its first name on

data FunctionPortHead (b : Bounds) : FunctionPort → List Token → List Token → Type 0 where
  head : {kind : ParameterType} {i : Identifier} {word : Token} {ts us rest : List Token} → IsKeyword (codes "input") word → ReadsParameterType b kind ts us → ReadsIdentifier i us rest
      → FunctionPortHead b (record { place = word.place; kind = kind; names = i ∷ [] }) (word ∷ ts) rest

port_parts : (b : Bounds) (g : FunctionPort) (ts rest : List Token) → ReadsFunctionPort b g ts rest → (h : FunctionPort) × (us : List Token) × FunctionPortHead b h ts us × ReadsGrown (λ x. NameGrows x b) h g us rest
port_parts b g ts rest (ReadsFunctionPort.port {kind} {word} w x ls) =
    let k = grown_of_list ReadsIdentifier (λ x. NameGrows x b) (λ ns. record { place = word.place; kind = kind; names = ns }) (λ es a ts rest q. (a, q, refl)) ls in (_, k.1, FunctionPortHead.head w x k.2, k.3)

shorter_head : (b : Bounds) (h : FunctionPort) (ts rest : List Token) → FunctionPortHead b h ts rest → length rest < length ts
shorter_head b h ts rest (FunctionPortHead.head w x q) = omega (arith, no_longer_type x, shorter_identifier q)

-- what begins with a name begins with no "input"
named_apart : {ts : List Token} → Named ts → is_next (is_word (codes "input")) ts ≡ false
named_apart {ts} w = not_ahead (keyword (codes "input")) ts (named_no_word (codes "input") w)

head_first : (b : Bounds) {h : FunctionPort} {ts rest : List Token} → FunctionPortHead b h ts rest → is_next (is_word (codes "input")) ts ≡ true
head_first b (FunctionPortHead.head {word} w x q) = ahead (keyword (codes "input")) word word.place (keyword_here (codes "input") (codes "input") word w refl)

-- ---- what the grammar derives is read

module _ (n most : ℕ) (room : most + 1 < n) (s t : Bool) (u : ℕ) where
  reads_port_head : (h : FunctionPort) (ts rest : List Token) → FunctionPortHead (bounds s t u) h ts rest → length ts ≤ most → Reads s t u h rest (function_port_head (whole n) (target n) n ts)
  unfolding function_port_head
  reads_port_head h ts rest (FunctionPortHead.head {word} {ts = us} w x q) l =
      rw (keyword_next (codes "input") word us w refl) (reads_bind _ (reads_parameter_type n most room s t u x (omega arith) (named_identifier q)) (rw (identifier_reads q) read_now))

  reads_port_grow : (g h : FunctionPort) (ts rest : List Token) → NameGrows g (bounds s t u) h ts rest → Reads s t u h rest (function_port_grow (whole n) (target n) n g ts)
  unfolding function_port_grow
  reads_port_grow g h ts rest (i, q, e) = rw (identifier_reads q, e) read_now

  reads_ports : {gs : List FunctionPort} {ts rest : List Token} → ReadsList (ReadsFunctionPort (bounds s t u)) gs ts rest → length ts ≤ most → next_by (mark (codes ",")) rest ≡ None → Reads s t u gs rest (function_ports (whole n) (target n) n ts)
  unfolding function_ports
  reads_ports {gs} {ts} {rest} q l e =
      let k = groups_of_list (ReadsFunctionPort (bounds s t u)) (FunctionPortHead (bounds s t u)) (λ x. NameGrows x (bounds s t u)) (port_parts (bounds s t u)) q in
      let less = shorter_head (bounds s t u) k.0 ts k.1 k.2 in
      reads_bind _ (reads_port_head k.0 ts k.1 k.2 l)
      (reads_groups (is_word (codes "input")) _ _ (FunctionPortHead (bounds s t u)) (λ x. NameGrows x (bounds s t u)) (λ _. Unit {0}) (λ v us h. tt) most
      (λ h ts rest l q c. (head_first (bounds s t u) q, reads_port_head h ts rest q l)) (λ g h ts rest l q c. (named_apart (named_identifier q.1), reads_port_grow g h ts rest q))
      (λ h ts rest q. omega (arith, shorter_head (bounds s t u) h ts rest q)) (λ g h ts rest q. omega (arith, shorter_identifier q.1)) k.3 n (omega (arith, less)) (omega (arith, less)) tt e)

  reads_header : (a : Option (List FunctionPort)) (closing : Token) {ts rest : List Token} → ReadsOptional (ReadsParenthesized (ReadsList (ReadsFunctionPort (bounds s t u)))) a ts (closing ∷ rest) → IsMark (codes ";") closing → length ts ≤ most → Reads s t u a rest (function_header (whole n) (target n) n ts)
  unfolding function_header
  reads_header a v {ts} {rest} q i l = reads_bind _ (reads_optional (mark (codes "(")) _ (ReadsParenthesized (ReadsList (ReadsFunctionPort (bounds s t u)))) q (mark_apart (codes "(") (codes ";") v rest i refl) (λ e d. opens d l))
      (rw (mark_next (codes ";") v rest i refl) read_now)
    where
      opens : {a : List FunctionPort} {ts rest : List Token} → ReadsParenthesized (ReadsList (ReadsFunctionPort (bounds s t u))) a ts rest → length ts ≤ most → Opens (mark (codes "(")) (λ _. function_ports (whole n) (target n) n >>= λ xs. must (mark (codes ")")) (λ _. pure xs)) s t u a ts rest
      opens (ReadsParenthesized.parenthesized {opening} {closing} {ts} {rest} h d j) l = (
        opening,
        ts,
        opening.place,
        refl,
        mark_here (codes "(") (codes "(") opening h refl,
        reads_bind _ (reads_ports d (omega arith) (mark_apart (codes ",") (codes ")") closing rest j refl)) (rw (mark_next (codes ")") closing rest j refl) read_now),
      )

  reads_names : {is : List Identifier} {ts : List Token} (closing : Token) (rest : List Token) → ReadsList ReadsIdentifier is ts (closing ∷ rest) → IsMark (codes ";") closing → length ts ≤ most → Reads s t u is (closing ∷ rest) (list identifier n ts)
  reads_names v rest q i l = reads_list identifier ReadsIdentifier (λ _. Unit {0}) (λ v us h. tt) most (λ a ts rest l d w. Reads.read (identifier_reads d)) (λ a ts rest d. omega (arith, shorter_identifier d)) q n l (omega arith) tt (mark_apart (codes ",") (codes ";") v rest i refl)

  declaration_opens : (a : FunctionDeclaration) (ts rest : List Token) → length ts ≤ most → ReadsFunctionDeclaration (bounds s t u) a ts rest → Opens (declaration_by (whole n) (target n) n) (λ q. q) s t u a ts rest
  unfolding declaration_by input_declaration reg_declaration integer_declaration
  declaration_opens a ts rest l (ReadsFunctionDeclaration.input_declaration {closing = v} (ReadsFunctionPort.port {kind} {word} {ts = us} w x q) i) = (
    word,
    us,
    input_declaration (whole n) (target n) n word.place,
    refl,
    ap (declaration_by_kind (whole n) (target n) n word.place) w,
    reads_bind _ (reads_parameter_type n most room s t u x (omega arith) (named_list ReadsIdentifier (λ a ts rest d. named_identifier d) q)) (reads_bind _ (reads_names v rest q i (omega (arith, no_longer_type x))) (rw (mark_next (codes ";") v rest i refl) read_now)),
  )
  declaration_opens a ts rest l (ReadsFunctionDeclaration.reg_declaration {word} {closing = v} {ts = us} w x y q i) =
      let first = named_list ReadsIdentifier (λ a ts rest d. named_identifier d) q in (
        word,
        us,
        reg_declaration (whole n) (target n) n word.place,
        refl,
        ap (declaration_by_kind (whole n) (target n) n word.place) w,
        rw (word_reads x refl (range_no_word (codes "signed") y (named_no_word (codes "signed") first)))
            (reads_bind _ (reads_optional_range n most room s t u y (omega (arith, no_longer_word x)) (named_no_mark (codes "[") first)) (reads_bind _ (reads_names v rest q i (omega (arith, no_longer_word x, no_longer_optional_range y))) (rw (mark_next (codes ";") v rest i refl) read_now))),
      )
  declaration_opens a ts rest l (ReadsFunctionDeclaration.integer_declaration {word} {closing = v} {ts = us} w q i) = (
    word,
    us,
    integer_declaration (whole n) (target n) n word.place,
    refl,
    ap (declaration_by_kind (whole n) (target n) n word.place) w,
    reads_bind _ (reads_names v rest q i (omega arith)) (rw (mark_next (codes ";") v rest i refl) read_now),
  )

  -- behind the declarations stands a statement
  declarations_end : {d : ℕ} {a : Statement} {ts rest : List Token} → ReadsStatement (bounds s t u) d a ts rest → next_by (declaration_by (whole n) (target n) n) ts ≡ None
  unfolding declaration_by
  declarations_end q = let (v, us, e, h) = statement_starts q in
      rw e (none_here (declaration_by (whole n) (target n) n) v us (first_token (declaration_by_kind (whole n) (target n) n v.place) None (λ m. refl) (λ m. refl) refl refl refl refl refl refl refl refl v h))

  type_no_word : (w : List ℕ) {a : ParameterType} {ts rest : List Token} → ReadsParameterType (bounds s t u) a ts rest → bytes_eq (codes "integer") w ≡ false → bytes_eq (codes "signed") w ≡ false → Named rest → next_by (keyword w) ts ≡ None
  type_no_word w (ReadsParameterType.integer {word} {rest} h) e f r = keyword_apart w (codes "integer") word rest h e
  type_no_word w (ReadsParameterType.vector x y) e f r = word_no_word w (codes "signed") x f (range_no_word w y (named_no_word w r))

  pub reads_function : {a : Function} {ts rest : List Token} → ReadsFunction (bounds s t u) a ts rest → length ts ≤ most → (v : Token) × (us : List Token) × (ts ≡ v ∷ us) × IsKeyword (codes "function") v × Reads s t u a rest (function (whole n) (target n) n (outer n) v.place us)
  unfolding function
  reads_function (ReadsFunction.function_of {word} {closing} {last} {ts} {ws} {xs} {ys} {rest} h d f g o i r q j) l =
      let first = named_identifier g in
      let declared : length ys ≤ length xs = no_longer_many (ReadsFunctionDeclaration (bounds s t u)) (λ a ts rest d. shorter_declaration d) r in (
        word,
        ts,
        refl,
        h,
        rw (word_reads d refl (type_no_word (codes "automatic") f refl refl first))
            (reads_bind _ (reads_parameter_type n most room s t u f (omega (arith, no_longer_word d)) first) (rw (identifier_reads g)
            (reads_bind _ (reads_header _ closing o i (omega (arith, no_longer_word d, no_longer_type f, shorter_identifier g)))
            (reads_bind _ (reads_each (declaration_by (whole n) (target n) n) (λ q. q) (ReadsFunctionDeclaration (bounds s t u)) most declaration_opens (λ a ts rest d. shorter_declaration d) r n
            (omega (arith, no_longer_word d, no_longer_type f, shorter_identifier g, no_longer_ports o)) (omega (arith, no_longer_word d, no_longer_type f, shorter_identifier g, no_longer_ports o)) (declarations_end q))
            (reads_bind _ (reads_statement n q most_statements (omega arith) (omega (arith, no_longer_word d, no_longer_type f, shorter_identifier g, no_longer_ports o, declared))) (rw (keyword_next (codes "endfunction") last rest j refl) read_now)))))),
      )
