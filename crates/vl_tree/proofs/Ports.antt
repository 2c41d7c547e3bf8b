-- Ports: what is read follows the grammar, and what the grammar derives is read.
use Rattle.std.proofs.Common.{◌≡◌, ℕ, zero, suc, ◌+◌, ◌<◌, ◌≤◌, inl, inr, Bool, true, false, length, List, [], ◌∷◌, ◌++◌, Option, None, refl, arith}
use Rattle.std.specs.Prelude.{codes}
use Rattle.std.specs.Str.{bytes_eq}
use Rattle.vl_base.specs.declared.place.Place.{Place}
use Rattle.vl_tree.specs.declared.token.Token.{Token}
use Rattle.vl_tree.specs.declared.token.TokenKind.TheVariants as k
use Rattle.vl_tree.specs.declared.tree.Identifier.{Identifier}
use Rattle.vl_tree.specs.MarksOfGrammar.{IsMark, IsKeyword}
use Rattle.vl_tree.specs.Reading.{next_by, is_next, mark, keyword}
use Rattle.vl_tree.proofs.MarkLemmas.{mark_here, mark_some}
use Rattle.vl_tree.specs.declared.source_tree.Ports.{Ports}
use Rattle.vl_tree.specs.declared.source_tree.Ports.TheVariants as ps
use Rattle.vl_tree.specs.declared.source_tree.PortDeclaration.{PortDeclaration}
use Rattle.vl_tree.specs.declared.source_tree.PortDeclaration.TheVariants as pd
use Rattle.vl_tree.specs.declared.source_tree.Direction.{Direction}
use Rattle.vl_tree.specs.declared.source_tree.Direction.TheVariants as d
use Rattle.vl_tree.specs.declared.source_tree.DeclarationAssignment.{DeclarationAssignment}
use Rattle.vl_tree.specs.declared.source_tree.Range.{Range}
use Rattle.vl_tree.specs.Bounds.{Bounds}
use Rattle.vl_tree.specs.Lists.{ReadsOptional, ReadsList, ReadsWord, ReadsIdentifier}
use Rattle.vl_tree.specs.GrammarOfSource.{ReadsRange, ReadsDeclarationAssignment, IsDirection, ReadsPort, ReadsPorts}
use Rattle.vl_tree.specs.Parsers.{is_mark, identifier, list}
use Rattle.vl_tree.specs.Parsing.{whole, target, optional_range, declaration_assignment, net_head, reg_head, integer_head, output_head, port_head, port_grow, is_direction, ports, port_names, module_ports}
use Rattle.vl_tree.proofs.Words.{keyword_some, keyword_here, keyword_other, no_keyword}
use Rattle.vl_tree.proofs.FollowsOfSource.{Relation, Follows, Then, bounds, follows_weaker, follows_pure, follows_fault, follows_bind, follows_if, follows_must, follows_ahead, word_of, word_here, word_free}
use Rattle.vl_tree.proofs.FollowsLists.{ReadsGroups, follows_identifier, follows_word, follows_list, follows_groups, list_of_groups, list_grows}
use Rattle.vl_tree.proofs.Completing.{Reads, ReadsGrown, read_now, reads_bind, reads_list, reads_groups, groups_of_list, identifier_reads, word_reads, mark_next, mark_apart, keyword_next, keyword_apart}
use Rattle.vl_tree.proofs.PartsOfSource.{not_ahead, ahead, shorter_identifier, no_longer_word, shorter_list, Named, named_identifier, named_list, named_no_word, named_no_mark, word_no_word, word_no_mark, Closes, closes_comma, closes_parenthesis, grown_of_list}
use Rattle.vl_tree.proofs.Declarations.{follows_optional_range, follows_declaration_assignment, no_longer_optional_range, shorter_declaration, named_declaration, range_no_word, reads_optional_range, reads_declaration_assignment}

-- ---- a further name

-- h is g with one more name
abbrev pub PortGrows : PortDeclaration → Relation PortDeclaration
PortGrows (pd.Net p direction wire signed r ns) b h ts rest = (i : Identifier) × ReadsIdentifier i ts rest × (h ≡ pd.Net p direction wire signed r (ns ++ i ∷ []))
PortGrows (pd.Reg p signed r ns) b h ts rest = (a : DeclarationAssignment) × ReadsDeclarationAssignment b a ts rest × (h ≡ pd.Reg p signed r (ns ++ a ∷ []))
PortGrows (pd.Integer p ns) b h ts rest = (a : DeclarationAssignment) × ReadsDeclarationAssignment b a ts rest × (h ≡ pd.Integer p (ns ++ a ∷ []))

grow_port : (b : Bounds) (g h : PortDeclaration) (comma : Token) (ts us vs : List Token) → ReadsPort b g ts (comma ∷ us) → IsMark (codes ",") comma → PortGrows g b h us vs → ReadsPort b h ts vs
grow_port b g h comma ts us vs (ReadsPort.net w x y r ls) c (i, q, e) = rw e (ReadsPort.net w x y r (list_grows ReadsIdentifier ls c q))
grow_port b g h comma ts us vs (ReadsPort.reg w z y r ls) c (i, q, e) = rw e (ReadsPort.reg w z y r (list_grows (ReadsDeclarationAssignment b) ls c q))
grow_port b g h comma ts us vs (ReadsPort.integer_port w z ls) c (i, q, e) = rw e (ReadsPort.integer_port w z (list_grows (ReadsDeclarationAssignment b) ls c q))

pub grown_port : (b : Bounds) {g h : PortDeclaration} {ts us rest : List Token} → ReadsPort b g ts us → ReadsGrown (λ x. PortGrows x b) g h us rest → ReadsPort b h ts rest
grown_port b d ReadsGrown.all_grown = d
grown_port b d (ReadsGrown.one_more c m f) = grown_port b (grow_port b _ _ _ _ _ _ d c m) f

-- ---- what is read follows the grammar

-- behind a token
abbrev pub PortBehind : Token → Relation PortDeclaration
PortBehind v b a ts rest = ReadsPort b a (v ∷ ts) rest

module _ (n : ℕ) where
  pub follows_net_head : (v : Token) (p : Place) (direction : Direction) → IsDirection direction v → p ≡ v.place → Follows (PortBehind v) (net_head (whole n) (target n) n p direction)
  unfolding net_head
  follows_net_head v p direction w e = follows_weaker (λ b a ts rest (wire, us, x, (signed, vs, y, (r, ws, z, (i, xs, q, (j, g))))). rw (j, e) (ReadsPort.net w x y z (ReadsList.last (rw g at q))))
      (follows_bind (λ _. ReadsWord (codes "wire")) _ _ _ (follows_word (codes "wire")) (λ wire. follows_bind (λ _. ReadsWord (codes "signed")) _ _ _ (follows_word (codes "signed"))
      (λ signed. follows_bind (λ b. ReadsOptional (ReadsRange b)) _ (optional_range (whole n) (target n) n) _ (follows_optional_range n) (λ r. follows_bind (λ _. ReadsIdentifier) _ identifier _ follows_identifier (λ i. follows_pure (pd.Net p direction wire signed r (i ∷ [])))))))

  follows_reg_head : (v w : Token) (p : Place) → IsKeyword (codes "output") v → IsKeyword (codes "reg") w → p ≡ v.place → Follows (λ b a ts rest. ReadsPort b a (v ∷ w ∷ ts) rest) (reg_head (whole n) (target n) n p)
  unfolding reg_head
  follows_reg_head v w p h i e = follows_weaker (λ b a ts rest (signed, us, y, (r, vs, z, (x, ws, q, (j, g)))). rw (j, e) (ReadsPort.reg h i y z (ReadsList.last (rw g at q))))
      (follows_bind (λ _. ReadsWord (codes "signed")) _ _ _ (follows_word (codes "signed")) (λ signed. follows_bind (λ b. ReadsOptional (ReadsRange b)) _ (optional_range (whole n) (target n) n) _ (follows_optional_range n)
      (λ r. follows_bind ReadsDeclarationAssignment _ (declaration_assignment (whole n) (target n) n) _ (follows_declaration_assignment n) (λ a. follows_pure (pd.Reg p signed r (a ∷ []))))))

  follows_integer_head : (v w : Token) (p : Place) → IsKeyword (codes "output") v → IsKeyword (codes "integer") w → p ≡ v.place → Follows (λ b a ts rest. ReadsPort b a (v ∷ w ∷ ts) rest) (integer_head (whole n) (target n) n p)
  unfolding integer_head
  follows_integer_head v w p h i e = follows_weaker (λ b a ts rest (x, us, q, (j, g)). rw (j, e) (ReadsPort.integer_port h i (ReadsList.last (rw g at q))))
      (follows_bind ReadsDeclarationAssignment _ (declaration_assignment (whole n) (target n) n) _ (follows_declaration_assignment n) (λ a. follows_pure (pd.Integer p (a ∷ []))))

  pub follows_output_head : (v : Token) (p : Place) → IsKeyword (codes "output") v → p ≡ v.place → Follows (PortBehind v) (output_head (whole n) (target n) n p)
  unfolding output_head
  follows_output_head v p h e = follows_weaker (λ b a ts rest g. elim g [
    | inl (w, us, x, i, j, q) ↦ rw i q
    | inr (inl (w, us, x, i, j, q)) ↦ rw i q
    | inr (inr q) ↦ q
  ])
      (follows_if (keyword (codes "reg")) (λ w _ b a ts rest. ReadsPort b a (v ∷ w ∷ ts) rest) _ _ _ (λ w x i. follows_reg_head v w p h (keyword_some (codes "reg") w x i).0 e)
      (follows_if (keyword (codes "integer")) (λ w _ b a ts rest. ReadsPort b a (v ∷ w ∷ ts) rest) _ _ _ (λ w x i. follows_integer_head v w p h (keyword_some (codes "integer") w x i).0 e)
      (follows_net_head v p d.Output (IsDirection.output h) e)))

  follows_port_head : Follows ReadsPort (port_head (whole n) (target n) n)
  unfolding port_head
  follows_port_head = follows_weaker (λ b a ts rest g. elim g [
    | inl (v, us, x, i, j, q) ↦ rw i q
    | inr (v, us, x, i, j, q) ↦ rw i q
  ])
      (follows_if (keyword (codes "input")) (λ v _. PortBehind v) _ _ _ (λ v x i. let w = keyword_some (codes "input") v x i in follows_net_head v x d.Input (IsDirection.input w.0) w.1)
      (follows_must (keyword (codes "output")) (λ v _. PortBehind v) (output_head (whole n) (target n) n) (λ v x i. let w = keyword_some (codes "output") v x i in follows_output_head v x w.0 w.1) (word_of (codes "output")) _ (word_here (codes "output") refl) (word_free (codes "output") refl refl)))

  follows_port_grow : (g : PortDeclaration) → Follows (PortGrows g) (port_grow (whole n) (target n) n g)
  unfolding port_grow
  follows_port_grow (pd.Net p direction wire signed r ns) = follows_weaker (λ b a ts rest (i, us, q, (j, g)). (i, rw g at q, j)) (follows_bind (λ _. ReadsIdentifier) _ identifier _ follows_identifier (λ i. follows_pure (pd.Net p direction wire signed r (ns ++ i ∷ []))))
  follows_port_grow (pd.Reg p signed r ns) = follows_weaker (λ b a ts rest (i, us, q, (j, g)). (i, rw g at q, j)) (follows_bind ReadsDeclarationAssignment _ (declaration_assignment (whole n) (target n) n) _ (follows_declaration_assignment n) (λ a. follows_pure (pd.Reg p signed r (ns ++ a ∷ []))))
  follows_port_grow (pd.Integer p ns) = follows_weaker (λ b a ts rest (i, us, q, (j, g)). (i, rw g at q, j)) (follows_bind ReadsDeclarationAssignment _ (declaration_assignment (whole n) (target n) n) _ (follows_declaration_assignment n) (λ a. follows_pure (pd.Integer p (ns ++ a ∷ []))))

  follows_ports : Follows (λ b. ReadsList (ReadsPort b)) (ports (whole n) (target n) n)
  unfolding ports
  follows_ports = follows_weaker (λ b gs ts rest (h, us, q, f). list_of_groups (ReadsPort b) (ReadsPort b) (λ x. PortGrows x b) (λ g ts us d. d) (grow_port b) q f)
      (follows_bind ReadsPort _ (port_head (whole n) (target n) n) _ follows_port_head (λ h. follows_groups (is_direction (whole n) (target n) n) ReadsPort PortGrows (port_head (whole n) (target n) n) (port_grow (whole n) (target n) n) follows_port_head follows_port_grow n h))

  pub follows_port_names : (m : ℕ) (g : PortDeclaration) → Follows (λ b. ReadsGrown (λ x. PortGrows x b) g) (port_names (whole n) (target n) n m g)
  unfolding port_names
  follows_port_names zero g = follows_fault (λ b. ReadsGrown (λ x. PortGrows x b) g) [] g (λ s t u o z y. ReadsGrown.all_grown) (λ o y. y)
  follows_port_names (suc m) g = follows_weaker (λ b a ts rest y. elim y [
    | inl (v, us, x, i, j, (h, vs, q, f)) ↦ rw i (ReadsGrown.one_more (mark_some (codes ",") v x j).0 q f)
    | inr (j, i) ↦ rw (j, i) ReadsGrown.all_grown
  ])
      (follows_if (mark (codes ",")) (λ _ _. Then (PortGrows g) (λ h b. ReadsGrown (λ x. PortGrows x b) h)) _ _ _ (λ v x i. follows_bind (PortGrows g) (λ h b. ReadsGrown (λ x. PortGrows x b) h) (port_grow (whole n) (target n) n g) _ (follows_port_grow g) (λ h. follows_port_names m h)) (follows_pure g))

  pub follows_module_ports : Follows ReadsPorts (module_ports (whole n) (target n) n)
  unfolding module_ports
  follows_module_ports = follows_ahead ReadsPorts (is_mark (codes ")")) _ _ (follows_weaker (λ b a ts rest (j, g). rw (j, g) ReadsPorts.no_port) (follows_pure ps.Empty))
      (follows_ahead ReadsPorts (is_direction (whole n) (target n) n) _ _
      (follows_weaker (λ b a ts rest (xs, us, q, (j, g)). rw j (ReadsPorts.declarations (rw g at q))) (follows_bind (λ b. ReadsList (ReadsPort b)) _ (ports (whole n) (target n) n) _ follows_ports (λ xs. follows_pure (ps.Declarations xs))))
      (follows_weaker (λ b a ts rest (xs, us, q, (j, g)). rw j (ReadsPorts.names (rw g at q))) (follows_bind (λ _. ReadsList ReadsIdentifier) _ (list identifier n) _ (follows_list (λ _. ReadsIdentifier) identifier follows_identifier n) (λ xs. follows_pure (ps.Names xs)))))

-- ---- a declaration of ports, from its first name on

pub data PortHead (b : Bounds) : PortDeclaration → List Token → List Token → Type 0 where
  input_head : {wire signed : Bool} {r : Option Range} {i : Identifier} {word : Token} {ts us vs ws rest : List Token} → IsKeyword (codes "input") word → ReadsWord (codes "wire") wire ts us → ReadsWord (codes "signed") signed us vs → ReadsOptional (ReadsRange b) r vs ws → ReadsIdentifier i ws rest
      → PortHead b (pd.Net word.place d.Input wire signed r (i ∷ [])) (word ∷ ts) rest
  output_net : {wire signed : Bool} {r : Option Range} {i : Identifier} {word : Token} {ts us vs ws rest : List Token} → IsKeyword (codes "output") word → ReadsWord (codes "wire") wire ts us → ReadsWord (codes "signed") signed us vs → ReadsOptional (ReadsRange b) r vs ws → ReadsIdentifier i ws rest
      → PortHead b (pd.Net word.place d.Output wire signed r (i ∷ [])) (word ∷ ts) rest
  output_reg : {signed : Bool} {r : Option Range} {a : DeclarationAssignment} {word kind : Token} {ts us vs rest : List Token} → IsKeyword (codes "output") word → IsKeyword (codes "reg") kind → ReadsWord (codes "signed") signed ts us → ReadsOptional (ReadsRange b) r us vs → ReadsDeclarationAssignment b a vs rest
      → PortHead b (pd.Reg word.place signed r (a ∷ [])) (word ∷ kind ∷ ts) rest
  output_integer : {a : DeclarationAssignment} {word kind : Token} {ts rest : List Token} → IsKeyword (codes "output") word → IsKeyword (codes "integer") kind → ReadsDeclarationAssignment b a ts rest
      → PortHead b (pd.Integer word.place (a ∷ [])) (word ∷ kind ∷ ts) rest

-- its first name, and the others
pub port_parts : (b : Bounds) (g : PortDeclaration) (ts rest : List Token) → ReadsPort b g ts rest → (h : PortDeclaration) × (us : List Token) × PortHead b h ts us × ReadsGrown (λ x. PortGrows x b) h g us rest
port_parts b g ts rest (ReadsPort.net {wire} {signed} {r} {word} (IsDirection.input w) x y z ls) =
    let k = grown_of_list ReadsIdentifier (λ x. PortGrows x b) (λ ns. pd.Net word.place d.Input wire signed r ns) (λ es a ts rest q. (a, q, refl)) ls in (_, k.1, PortHead.input_head w x y z k.2, k.3)
port_parts b g ts rest (ReadsPort.net {wire} {signed} {r} {word} (IsDirection.output w) x y z ls) =
    let k = grown_of_list ReadsIdentifier (λ x. PortGrows x b) (λ ns. pd.Net word.place d.Output wire signed r ns) (λ es a ts rest q. (a, q, refl)) ls in (_, k.1, PortHead.output_net w x y z k.2, k.3)
port_parts b g ts rest (ReadsPort.reg {signed} {r} {word} w i y z ls) =
    let k = grown_of_list (ReadsDeclarationAssignment b) (λ x. PortGrows x b) (λ ns. pd.Reg word.place signed r ns) (λ es a ts rest q. (a, q, refl)) ls in (_, k.1, PortHead.output_reg w i y z k.2, k.3)
port_parts b g ts rest (ReadsPort.integer_port {word} w i ls) =
    let k = grown_of_list (ReadsDeclarationAssignment b) (λ x. PortGrows x b) (λ ns. pd.Integer word.place ns) (λ es a ts rest q. (a, q, refl)) ls in (_, k.1, PortHead.output_integer w i k.2, k.3)

-- ---- how many tokens are left

module _ (b : Bounds) where
  pub shorter_head : (h : PortDeclaration) (ts rest : List Token) → PortHead b h ts rest → length rest < length ts
  shorter_head h ts rest (PortHead.input_head w x y z q) = omega (arith, no_longer_word x, no_longer_word y, no_longer_optional_range z, shorter_identifier q)
  shorter_head h ts rest (PortHead.output_net w x y z q) = omega (arith, no_longer_word x, no_longer_word y, no_longer_optional_range z, shorter_identifier q)
  shorter_head h ts rest (PortHead.output_reg w i y z q) = omega (arith, no_longer_word y, no_longer_optional_range z, shorter_declaration q)
  shorter_head h ts rest (PortHead.output_integer w i q) = omega (arith, shorter_declaration q)

  pub shorter_grow : (g h : PortDeclaration) (ts rest : List Token) → PortGrows g b h ts rest → length rest < length ts
  shorter_grow (pd.Net p direction wire signed r ns) h ts rest (i, q, e) = shorter_identifier q
  shorter_grow (pd.Reg p signed r ns) h ts rest (a, q, e) = shorter_declaration q
  shorter_grow (pd.Integer p ns) h ts rest (a, q, e) = shorter_declaration q

  pub named_grow : (g h : PortDeclaration) (ts rest : List Token) → PortGrows g b h ts rest → Named ts
  named_grow (pd.Net p direction wire signed r ns) h ts rest (i, q, e) = named_identifier q
  named_grow (pd.Reg p signed r ns) h ts rest (a, q, e) = named_declaration q
  named_grow (pd.Integer p ns) h ts rest (a, q, e) = named_declaration q

  no_longer_grown : {g h : PortDeclaration} {ts rest : List Token} → ReadsGrown (λ x. PortGrows x b) g h ts rest → length rest ≤ length ts
  no_longer_grown ReadsGrown.all_grown = omega arith
  no_longer_grown (ReadsGrown.one_more c m f) = omega (arith, shorter_grow _ _ _ _ m, no_longer_grown f)

  pub shorter_port : {a : PortDeclaration} {ts rest : List Token} → ReadsPort b a ts rest → length rest < length ts
  shorter_port {a} {ts} {rest} q = let k = port_parts b a ts rest q in omega (arith, shorter_head _ _ _ k.2, no_longer_grown k.3)

-- ---- what comes first

module _ (n : ℕ) where
  input_here : (v : Token) → IsKeyword (codes "input") v → is_direction (whole n) (target n) n v ≡ true
  unfolding is_direction
  input_here v h = rw (keyword_here (codes "input") (codes "input") v h refl) refl

  output_here : (v : Token) → IsKeyword (codes "output") v → is_direction (whole n) (target n) n v ≡ true
  unfolding is_direction
  output_here v h = rw (keyword_other (codes "input") (codes "output") v h refl, keyword_here (codes "output") (codes "output") v h refl) refl

  name_apart : (v : Token) (name : List ℕ) → v.kind ≡ k.Name name → is_direction (whole n) (target n) n v ≡ false
  unfolding is_direction
  name_apart v name h = rw (no_keyword (codes "input") v (k.Name name) h refl, no_keyword (codes "output") v (k.Name name) h refl) refl

  named_apart : {ts : List Token} → Named ts → is_next (is_direction (whole n) (target n) n) ts ≡ false
  named_apart (v, us, name, e, h) = rw e (name_apart v name h)

  head_first : (b : Bounds) {h : PortDeclaration} {ts rest : List Token} → PortHead b h ts rest → is_next (is_direction (whole n) (target n) n) ts ≡ true
  head_first b (PortHead.input_head {word} w x y z q) = input_here word w
  head_first b (PortHead.output_net {word} w x y z q) = output_here word w
  head_first b (PortHead.output_reg {word} w i y z q) = output_here word w
  head_first b (PortHead.output_integer {word} w i q) = output_here word w

  head_no_mark : (b : Bounds) (m : List ℕ) {h : PortDeclaration} {ts rest : List Token} → PortHead b h ts rest → next_by (mark m) ts ≡ None
  head_no_mark b m (PortHead.input_head {word} {ts} w x y z q) = word_no_mark m (codes "input") word ts w
  head_no_mark b m (PortHead.output_net {word} {ts} w x y z q) = word_no_mark m (codes "output") word ts w
  head_no_mark b m (PortHead.output_reg {word} {kind} {ts} w i y z q) = word_no_mark m (codes "output") word (kind ∷ ts) w
  head_no_mark b m (PortHead.output_integer {word} {kind} {ts} w i q) = word_no_mark m (codes "output") word (kind ∷ ts) w

-- ---- what the grammar derives is read

module _ (n most : ℕ) (room : most + 1 < n) (s t : Bool) (u : ℕ) where
  pub reads_net_head : (p : Place) (direction : Direction) {wire signed : Bool} {r : Option Range} {i : Identifier} {ts us vs ws rest : List Token} → ReadsWord (codes "wire") wire ts us → ReadsWord (codes "signed") signed us vs → ReadsOptional (ReadsRange (bounds s t u)) r vs ws → ReadsIdentifier i ws rest
      → length ts ≤ most → Reads s t u (pd.Net p direction wire signed r (i ∷ [])) rest (net_head (whole n) (target n) n p direction ts)
  unfolding net_head
  reads_net_head p direction x y z q l =
      rw (word_reads x refl (word_no_word (codes "wire") (codes "signed") y refl (range_no_word (codes "wire") z (named_no_word (codes "wire") (named_identifier q)))), word_reads y refl (range_no_word (codes "signed") z (named_no_word (codes "signed") (named_identifier q))))
      (reads_bind _ (reads_optional_range n most room s t u z (omega (arith, no_longer_word x, no_longer_word y)) (named_no_mark (codes "[") (named_identifier q))) (rw (identifier_reads q) read_now))

  pub reads_output_net : (p : Place) {wire signed : Bool} {r : Option Range} {i : Identifier} {ts us vs ws rest : List Token} → ReadsWord (codes "wire") wire ts us → ReadsWord (codes "signed") signed us vs → ReadsOptional (ReadsRange (bounds s t u)) r vs ws → ReadsIdentifier i ws rest
      → length ts ≤ most → Reads s t u (pd.Net p d.Output wire signed r (i ∷ [])) rest (output_head (whole n) (target n) n p ts)
  unfolding output_head
  reads_output_net p {wire} {signed} {r} {i} {ts} x y z q l = rw (other (codes "reg") refl refl, other (codes "integer") refl refl) (reads_net_head p d.Output x y z q l)
    where
      other : (w : List ℕ) → bytes_eq (codes "wire") w ≡ false → bytes_eq (codes "signed") w ≡ false → next_by (keyword w) ts ≡ None
      other w e g = word_no_word w (codes "wire") x e (word_no_word w (codes "signed") y g (range_no_word w z (named_no_word w (named_identifier q))))

  pub reads_output_reg : (p : Place) (kind : Token) {signed : Bool} {r : Option Range} {a : DeclarationAssignment} {ts us vs rest : List Token} → IsKeyword (codes "reg") kind → ReadsWord (codes "signed") signed ts us → ReadsOptional (ReadsRange (bounds s t u)) r us vs → ReadsDeclarationAssignment (bounds s t u) a vs rest
      → length ts ≤ most → Closes rest → Reads s t u (pd.Reg p signed r (a ∷ [])) rest (output_head (whole n) (target n) n p (kind ∷ ts))
  unfolding output_head reg_head
  reads_output_reg p kind {signed} {r} {a} {ts} i y z q l c =
      rw (keyword_next (codes "reg") kind ts i refl, word_reads y refl (range_no_word (codes "signed") z (named_no_word (codes "signed") (named_declaration q))))
      (reads_bind _ (reads_optional_range n most room s t u z (omega (arith, no_longer_word y)) (named_no_mark (codes "[") (named_declaration q)))
      (reads_bind _ (reads_declaration_assignment n most room s t u q (omega (arith, no_longer_word y, no_longer_optional_range z)) c) read_now))

  pub reads_output_integer : (p : Place) (kind : Token) {a : DeclarationAssignment} {ts rest : List Token} → IsKeyword (codes "integer") kind → ReadsDeclarationAssignment (bounds s t u) a ts rest
      → length ts ≤ most → Closes rest → Reads s t u (pd.Integer p (a ∷ [])) rest (output_head (whole n) (target n) n p (kind ∷ ts))
  unfolding output_head integer_head
  reads_output_integer p kind {a} {ts} i q l c =
      rw (keyword_apart (codes "reg") (codes "integer") kind ts i refl, keyword_next (codes "integer") kind ts i refl) (reads_bind _ (reads_declaration_assignment n most room s t u q l c) read_now)

  reads_port_head : {h : PortDeclaration} {ts rest : List Token} → PortHead (bounds s t u) h ts rest → length ts ≤ most → Closes rest → Reads s t u h rest (port_head (whole n) (target n) n ts)
  unfolding port_head
  reads_port_head (PortHead.input_head {word} {ts} w x y z q) l c = rw (keyword_next (codes "input") word ts w refl) (reads_net_head word.place d.Input x y z q (omega arith))
  reads_port_head (PortHead.output_net {word} {ts} w x y z q) l c = rw (keyword_apart (codes "input") (codes "output") word ts w refl, keyword_next (codes "output") word ts w refl) (reads_output_net word.place x y z q (omega arith))
  reads_port_head (PortHead.output_reg {word} {kind} {ts} w i y z q) l c = rw (keyword_apart (codes "input") (codes "output") word (kind ∷ ts) w refl, keyword_next (codes "output") word (kind ∷ ts) w refl) (reads_output_reg word.place kind i y z q (omega arith) c)
  reads_port_head (PortHead.output_integer {word} {kind} {ts} w i q) l c = rw (keyword_apart (codes "input") (codes "output") word (kind ∷ ts) w refl, keyword_next (codes "output") word (kind ∷ ts) w refl) (reads_output_integer word.place kind i q (omega arith) c)

  reads_port_grow : (g h : PortDeclaration) (ts rest : List Token) → PortGrows g (bounds s t u) h ts rest → length ts ≤ most → Closes rest → Reads s t u h rest (port_grow (whole n) (target n) n g ts)
  unfolding port_grow
  reads_port_grow (pd.Net p direction wire signed r ns) h ts rest (i, q, e) l c = rw (identifier_reads q, e) read_now
  reads_port_grow (pd.Reg p signed r ns) h ts rest (a, q, e) l c = rw e (reads_bind _ (reads_declaration_assignment n most room s t u q l c) read_now)
  reads_port_grow (pd.Integer p ns) h ts rest (a, q, e) l c = rw e (reads_bind _ (reads_declaration_assignment n most room s t u q l c) read_now)

  behind_grown : {g h : PortDeclaration} {ts rest : List Token} → ReadsGrown (λ x. PortGrows x (bounds s t u)) g h ts rest → Closes rest → Closes ts
  behind_grown ReadsGrown.all_grown c = c
  behind_grown (ReadsGrown.one_more {comma} {ts} i m f) c = closes_comma comma ts i

  pub reads_port_names : {g h : PortDeclaration} {ts rest : List Token} → ReadsGrown (λ x. PortGrows x (bounds s t u)) g h ts rest → (m : ℕ) → length ts ≤ most → length ts < m → Closes rest → next_by (mark (codes ",")) rest ≡ None → Reads s t u h rest (port_names (whole n) (target n) n m g ts)
  unfolding port_names
  reads_port_names q zero l i c e = absurd (omega arith)
  reads_port_names ReadsGrown.all_grown (suc m) l i c e = rw e read_now
  reads_port_names (ReadsGrown.one_more {g} {h} {comma} {ts} {us} {rest} j x f) (suc m) l i c e =
      let less = shorter_grow (bounds s t u) g h ts us x in
      rw (mark_next (codes ",") comma ts j refl) (reads_bind _ (reads_port_grow g h ts us x (omega arith) (behind_grown f c)) (reads_port_names f m (omega (arith, less)) (omega (arith, less)) c e))

  reads_ports : {gs : List PortDeclaration} {ts rest : List Token} → ReadsList (ReadsPort (bounds s t u)) gs ts rest → length ts ≤ most → Closes rest → next_by (mark (codes ",")) rest ≡ None → Reads s t u gs rest (ports (whole n) (target n) n ts)
  unfolding ports
  reads_ports {gs} {ts} {rest} q l c e =
      let k = groups_of_list (ReadsPort (bounds s t u)) (PortHead (bounds s t u)) (λ x. PortGrows x (bounds s t u)) (port_parts (bounds s t u)) q in
      let less = shorter_head (bounds s t u) k.0 ts k.1 k.2 in
      reads_bind _ (reads_port_head k.2 l (behind_groups' k.3 c))
      (reads_groups (is_direction (whole n) (target n) n) _ _ (PortHead (bounds s t u)) (λ x. PortGrows x (bounds s t u)) Closes closes_comma most
      (λ h ts rest l q c. (head_first n (bounds s t u) q, reads_port_head q l c)) (λ g h ts rest l q c. (named_apart n (named_grow (bounds s t u) g h ts rest q), reads_port_grow g h ts rest q l c))
      (λ h ts rest q. omega (arith, shorter_head (bounds s t u) h ts rest q)) (λ g h ts rest q. omega (arith, shorter_grow (bounds s t u) g h ts rest q)) k.3 n (omega (arith, less)) (omega (arith, less)) c e)
    where
      behind_groups' : {g : PortDeclaration} {gs : List PortDeclaration} {ts rest : List Token} → ReadsGroups (PortHead (bounds s t u)) (λ x. PortGrows x (bounds s t u)) g gs ts rest → Closes rest → Closes ts
      behind_groups' ReadsGroups.last_group c = c
      behind_groups' (ReadsGroups.opened {comma} {ts} i q f) c = closes_comma comma ts i
      behind_groups' (ReadsGroups.grown {comma} {ts} i q f) c = closes_comma comma ts i

  pub no_longer_ports : {b : Bounds} {a : Ports} {ts rest : List Token} → ReadsPorts b a ts rest → length rest ≤ length ts
  no_longer_ports ReadsPorts.no_port = omega arith
  no_longer_ports (ReadsPorts.names q) = omega (arith, shorter_list ReadsIdentifier (λ a ts rest d. shorter_identifier d) q)
  no_longer_ports {b} (ReadsPorts.declarations q) = omega (arith, shorter_list (ReadsPort b) (λ a ts rest d. shorter_port b d) q)

  pub reads_module_ports : (a : Ports) (closing : Token) {ts rest : List Token} → ReadsPorts (bounds s t u) a ts (closing ∷ rest) → IsMark (codes ")") closing → length ts ≤ most → Reads s t u a (closing ∷ rest) (module_ports (whole n) (target n) n ts)
  unfolding module_ports
  reads_module_ports a v ReadsPorts.no_port h l = rw (ahead (mark (codes ")")) v v.place (mark_here (codes ")") (codes ")") v h refl)) read_now
  reads_module_ports a v {ts} {rest} (ReadsPorts.names q) h l =
      let w = named_list ReadsIdentifier (λ a ts rest d. named_identifier d) q in
      rw (not_ahead (mark (codes ")")) ts (named_no_mark (codes ")") w), named_apart n w)
      (reads_bind _ (reads_list identifier ReadsIdentifier (λ _. Unit {0}) (λ v us h. tt) most (λ a ts rest l d w. Reads.read (identifier_reads d)) (λ a ts rest d. omega (arith, shorter_identifier d)) q n l (omega arith) tt (mark_apart (codes ",") (codes ")") v rest h refl)) read_now)
  reads_module_ports a v {ts} {rest} (ReadsPorts.declarations q) h l =
      let k = groups_of_list (ReadsPort (bounds s t u)) (PortHead (bounds s t u)) (λ x. PortGrows x (bounds s t u)) (port_parts (bounds s t u)) q in
      rw (not_ahead (mark (codes ")")) ts (head_no_mark n (bounds s t u) (codes ")") k.2), head_first n (bounds s t u) k.2)
      (reads_bind _ (reads_ports q l (closes_parenthesis v rest h) (mark_apart (codes ",") (codes ")") v rest h refl)) read_now)
