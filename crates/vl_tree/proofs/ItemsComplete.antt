-- Items: what the grammar derives within bounds is read.
use Rattle.std.proofs.Common.{◌≡◌, ℕ, ◌+◌, ◌<◌, ◌≤◌, length, List, ◌∷◌, Some, None, Bool, refl, ap, arith, ◌∙◌}
use Rattle.std.specs.Prelude.{codes}
use Rattle.vl_base.specs.declared.place.Place.{Place}
use Rattle.vl_tree.specs.declared.token.Token.{Token}
use Rattle.vl_tree.specs.declared.token.TokenKind.{TokenKind}
use Rattle.vl_tree.specs.declared.token.TokenKind.TheVariants as k
use Rattle.vl_tree.specs.MarksOfGrammar.{IsMark}
use Rattle.vl_tree.specs.Reading.{next_by, mark}
use Rattle.vl_tree.proofs.Complete.{Ends, ends_before}
use Rattle.vl_tree.specs.declared.source_tree.Item.{Item}
use Rattle.vl_tree.specs.declared.source_tree.Item.TheVariants as i
use Rattle.vl_tree.specs.declared.source_tree.PortDeclaration.{PortDeclaration}
use Rattle.vl_tree.specs.declared.source_tree.Direction.TheVariants as d
use Rattle.vl_tree.specs.declared.source_tree.ParameterKeyword.{ParameterKeyword}
use Rattle.vl_tree.specs.declared.source_tree.ParameterKeyword.TheVariants as w
use Rattle.vl_tree.specs.declared.source_tree.ParameterAssignment.{ParameterAssignment}
use Rattle.vl_tree.specs.declared.source_tree.DeclarationAssignment.{DeclarationAssignment}
use Rattle.vl_tree.specs.declared.source_tree.VariableType.{VariableType}
use Rattle.vl_tree.specs.declared.source_tree.Assignment.{Assignment}
use Rattle.vl_tree.specs.declared.source_tree.Statement.{Statement}
use Rattle.vl_tree.specs.Bounds.{Bounds, most_statements}
use Rattle.vl_tree.specs.Lists.{ReadsMany, ReadsList}
use Rattle.vl_tree.specs.Statements.{ReadsAssignment, ReadsStatement}
use Rattle.vl_tree.specs.GrammarOfSource.{ReadsParameterAssignment, ReadsDeclarationAssignment, ReadsVariableType, IsParameterKeyword, ReadsItem}
use Rattle.vl_tree.specs.Parsers.{Parser, and_then, pure, must, list, many}
use Rattle.vl_tree.specs.Parsing.{whole, target, outer, assignment, parameter_assignment, declaration_assignment, variable_type, net_head, output_head, port_names, port_item, parameter_item, wire_item, reg_item, integer_item, assign_item, initial_item, always_item, function_item, instance_item, item_by_kind, item_by}
use Rattle.vl_tree.proofs.FollowsOfSource.{bounds}
use Rattle.vl_tree.proofs.Completing.{Reads, ReadsGrown, Opens, read_now, reads_bind, reads_list, reads_each, word_reads, mark_next, mark_apart}
use Rattle.vl_tree.proofs.StatementsShorter.{shorter_assignment, shorter_statement}
use Rattle.vl_tree.proofs.StatementsComplete.{reads_statement}
use Rattle.vl_tree.proofs.WholesComplete.{reads_assignment}
use Rattle.vl_tree.proofs.PartsOfSource.{no_longer_word, named_list, named_no_word, named_no_mark, shorter_list, Closes, closes_comma, closes_semicolon}
use Rattle.vl_tree.proofs.Declarations.{no_longer_type, no_longer_optional_range, shorter_parameter, shorter_declaration, shorter_variable, named_parameter, named_declaration, named_variable, range_no_word, reads_optional_range, reads_parameter_type, reads_parameter_assignment, reads_declaration_assignment, reads_variable_type}
use Rattle.vl_tree.proofs.Ports.{PortGrows, PortHead, port_parts, shorter_head, shorter_port, reads_net_head, reads_output_net, reads_output_reg, reads_output_integer, reads_port_names}
use Rattle.vl_tree.proofs.Processes.{shorter_trigger, trigger_reads}
use Rattle.vl_tree.proofs.Instances.{shorter_instance, reads_instance}
use Rattle.vl_tree.proofs.Functions.{shorter_function, reads_function}

pub shorter_item : {b : Bounds} {a : Item} {ts rest : List Token} → ReadsItem b a ts rest → length rest < length ts
shorter_item {b} (ReadsItem.port_item q h) = omega (arith, shorter_port b q)
shorter_item {b} (ReadsItem.parameter_item w q ls h) = omega (arith, no_longer_type q, shorter_list (ReadsParameterAssignment b) (λ a ts rest q. shorter_parameter q) ls)
shorter_item {b} (ReadsItem.wire_item w x r ls h) = omega (arith, no_longer_word x, no_longer_optional_range r, shorter_list (ReadsDeclarationAssignment b) (λ a ts rest q. shorter_declaration q) ls)
shorter_item {b} (ReadsItem.reg_item w x r ls h) = omega (arith, no_longer_word x, no_longer_optional_range r, shorter_list (ReadsVariableType b) (λ a ts rest q. shorter_variable q) ls)
shorter_item {b} (ReadsItem.integer_item w ls h) = omega (arith, shorter_list (ReadsVariableType b) (λ a ts rest q. shorter_variable q) ls)
shorter_item {b} (ReadsItem.assign_item w ls h) = omega (arith, shorter_list (ReadsAssignment b) (λ a ts rest q. shorter_assignment q) ls)
shorter_item (ReadsItem.initial_item w q) = omega (arith, shorter_statement q)
shorter_item (ReadsItem.always_item w h t q) = omega (arith, shorter_trigger t, shorter_statement q)
shorter_item (ReadsItem.function_item q) = shorter_function q
shorter_item (ReadsItem.instance_item q) = shorter_instance q

module _ (n most : ℕ) (room : most + 1 < n) (s t : Bool) (u : ℕ) where
  -- an item, by its first token
  abbrev ItemOpens : Item → List Token → List Token → Type 0
  ItemOpens a ts rest = Opens (item_by (whole n) (target n) n (outer n)) (λ q. q) s t u a ts rest

  item_at : {a : Item} {rest : List Token} (v : Token) (kind : TokenKind) (us : List Token) (q : Parser Item) → v.kind ≡ kind → item_by_kind (whole n) (target n) n (outer n) v.place kind ≡ Some q → Reads s t u a rest (q us) → ItemOpens a (v ∷ us) rest
  unfolding item_by
  item_at v kind us q h e r = (v, us, q, refl, ap (item_by_kind (whole n) (target n) n (outer n) v.place) h ∙ e, r)

  reads_outer : {a : Statement} {ts rest : List Token} → ReadsStatement (bounds s t u) 0 a ts rest → length ts ≤ most → Reads s t u a rest (outer n ts)
  reads_outer q l = reads_statement n q most_statements (omega arith) (omega (arith, l, room))

  -- ---- lists before ";"

  reads_parameters : {es : List ParameterAssignment} {ts : List Token} (closing : Token) (rest : List Token) → ReadsList (ReadsParameterAssignment (bounds s t u)) es ts (closing ∷ rest) → IsMark (codes ";") closing → length ts ≤ most → Reads s t u es (closing ∷ rest) (list (parameter_assignment (whole n) (target n) n) n ts)
  reads_parameters closing rest q h l = reads_list (parameter_assignment (whole n) (target n) n) (ReadsParameterAssignment (bounds s t u)) Ends (λ v us h. ends_before (codes ",") v us h refl refl refl refl) most
      (λ a ts rest l q c. reads_parameter_assignment n most room s t u q l c) (λ a ts rest q. omega (arith, shorter_parameter q)) q n l (omega (arith, l, room)) (ends_before (codes ";") closing rest h refl refl refl refl) (mark_apart (codes ",") (codes ";") closing rest h refl)

  reads_declarations : {es : List DeclarationAssignment} {ts : List Token} (closing : Token) (rest : List Token) → ReadsList (ReadsDeclarationAssignment (bounds s t u)) es ts (closing ∷ rest) → IsMark (codes ";") closing → length ts ≤ most → Reads s t u es (closing ∷ rest) (list (declaration_assignment (whole n) (target n) n) n ts)
  reads_declarations closing rest q h l = reads_list (declaration_assignment (whole n) (target n) n) (ReadsDeclarationAssignment (bounds s t u)) Closes closes_comma most
      (λ a ts rest l q c. reads_declaration_assignment n most room s t u q l c) (λ a ts rest q. omega (arith, shorter_declaration q)) q n l (omega (arith, l, room)) (closes_semicolon closing rest h) (mark_apart (codes ",") (codes ";") closing rest h refl)

  reads_variables : {es : List VariableType} {ts : List Token} (closing : Token) (rest : List Token) → ReadsList (ReadsVariableType (bounds s t u)) es ts (closing ∷ rest) → IsMark (codes ";") closing → length ts ≤ most → Reads s t u es (closing ∷ rest) (list (variable_type (whole n) (target n) n) n ts)
  reads_variables closing rest q h l = reads_list (variable_type (whole n) (target n) n) (ReadsVariableType (bounds s t u)) Closes closes_comma most
      (λ a ts rest l q c. reads_variable_type n most room s t u q l c) (λ a ts rest q. omega (arith, shorter_variable q)) q n l (omega (arith, l, room)) (closes_semicolon closing rest h) (mark_apart (codes ",") (codes ";") closing rest h refl)

  reads_assignments : {es : List Assignment} {ts : List Token} (closing : Token) (rest : List Token) → ReadsList (ReadsAssignment (bounds s t u)) es ts (closing ∷ rest) → IsMark (codes ";") closing → length ts ≤ most → Reads s t u es (closing ∷ rest) (list (assignment (whole n) (target n) n) n ts)
  reads_assignments closing rest q h l = reads_list (assignment (whole n) (target n) n) (ReadsAssignment (bounds s t u)) Ends (λ v us h. ends_before (codes ",") v us h refl refl refl refl) most
      (λ a ts rest l q c. reads_assignment q n (omega (arith, l, room)) c) (λ a ts rest q. omega (arith, shorter_assignment q)) q n l (omega (arith, l, room)) (ends_before (codes ";") closing rest h refl refl refl refl) (mark_apart (codes ",") (codes ";") closing rest h refl)

  -- ---- the items

  -- behind the first name of a declaration of ports
  behind_head : {h g : PortDeclaration} {ts : List Token} (closing : Token) (rest : List Token) → ReadsGrown (λ x. PortGrows x (bounds s t u)) h g ts (closing ∷ rest) → IsMark (codes ";") closing → Closes ts
  behind_head closing rest ReadsGrown.all_grown h = closes_semicolon closing rest h
  behind_head closing rest (ReadsGrown.one_more {comma} {ts} i m f) h = closes_comma comma ts i

  port_rest : {h g : PortDeclaration} {ts : List Token} (p : Place) (closing : Token) (rest : List Token) → ReadsGrown (λ x. PortGrows x (bounds s t u)) h g ts (closing ∷ rest) → IsMark (codes ";") closing → length ts ≤ most → Reads s t u (i.Port g) rest (and_then (port_names (whole n) (target n) n n h ts) (λ a. must (mark (codes ";")) (λ _. pure (i.Port a))))
  port_rest p closing rest f h l = reads_bind _ (reads_port_names n most room s t u f n l (omega (arith, l, room)) (closes_semicolon closing rest h) (mark_apart (codes ",") (codes ";") closing rest h refl)) (rw (mark_next (codes ";") closing rest h refl) read_now)

  port_opens : {h g : PortDeclaration} {ts us : List Token} (closing : Token) (rest : List Token) → PortHead (bounds s t u) h ts us → ReadsGrown (λ x. PortGrows x (bounds s t u)) h g us (closing ∷ rest) → IsMark (codes ";") closing → length ts ≤ most → ItemOpens (i.Port g) ts rest
  unfolding port_item
  port_opens closing rest (PortHead.input_head {word} {ts} w x y z q) f h l =
      item_at word (k.Keyword (codes "input")) ts (port_item (whole n) (target n) n (outer n) word.place (net_head (whole n) (target n) n word.place d.Input)) w refl
      (reads_bind _ (reads_net_head n most room s t u word.place d.Input x y z q (omega (arith, l))) (port_rest word.place closing rest f h (omega (arith, l, shorter_head (bounds s t u) _ _ _ (PortHead.input_head {word = word} w x y z q)))))
  port_opens closing rest (PortHead.output_net {word} {ts} w x y z q) f h l =
      item_at word (k.Keyword (codes "output")) ts (port_item (whole n) (target n) n (outer n) word.place (output_head (whole n) (target n) n word.place)) w refl
      (reads_bind _ (reads_output_net n most room s t u word.place x y z q (omega (arith, l))) (port_rest word.place closing rest f h (omega (arith, l, shorter_head (bounds s t u) _ _ _ (PortHead.output_net {word = word} w x y z q)))))
  port_opens closing rest (PortHead.output_reg {word} {kind} {ts} w j y z q) f h l =
      item_at word (k.Keyword (codes "output")) (kind ∷ ts) (port_item (whole n) (target n) n (outer n) word.place (output_head (whole n) (target n) n word.place)) w refl
      (reads_bind _ (reads_output_reg n most room s t u word.place kind j y z q (omega (arith, l)) (behind_head closing rest f h)) (port_rest word.place closing rest f h (omega (arith, l, shorter_head (bounds s t u) _ _ _ (PortHead.output_reg {word = word} {kind = kind} w j y z q)))))
  port_opens closing rest (PortHead.output_integer {word} {kind} {ts} w j q) f h l =
      item_at word (k.Keyword (codes "output")) (kind ∷ ts) (port_item (whole n) (target n) n (outer n) word.place (output_head (whole n) (target n) n word.place)) w refl
      (reads_bind _ (reads_output_integer n most room s t u word.place kind j q (omega (arith, l)) (behind_head closing rest f h)) (port_rest word.place closing rest f h (omega (arith, l, shorter_head (bounds s t u) _ _ _ (PortHead.output_integer {word = word} {kind = kind} w j q)))))

  parameter_opens : {kind : ParameterKeyword} {a : Item} {rest : List Token} (v : Token) (us : List Token) → IsParameterKeyword kind v → Reads s t u a rest (parameter_item (whole n) (target n) n (outer n) kind v.place us) → ItemOpens a (v ∷ us) rest
  parameter_opens v us (IsParameterKeyword.parameter_word h) r = item_at v (k.Keyword (codes "parameter")) us (parameter_item (whole n) (target n) n (outer n) w.Parameter v.place) h refl r
  parameter_opens v us (IsParameterKeyword.local_word h) r = item_at v (k.Keyword (codes "localparam")) us (parameter_item (whole n) (target n) n (outer n) w.Local v.place) h refl r

  pub item_opens : {a : Item} {ts rest : List Token} → ReadsItem (bounds s t u) a ts rest → length ts ≤ most → ItemOpens a ts rest
  unfolding parameter_item wire_item reg_item integer_item assign_item initial_item always_item function_item instance_item
  item_opens (ReadsItem.port_item {a} {closing} {ts} {rest} q h) l = let x = port_parts (bounds s t u) a ts (closing ∷ rest) q in port_opens closing rest x.2 x.3 h l
  item_opens (ReadsItem.parameter_item {kind} {type} {ns} {word} {closing} {ts} {us} {rest} w q ls h) l =
      parameter_opens word ts w (reads_bind _ (reads_parameter_type n most room s t u q (omega (arith, l)) (named_list (ReadsParameterAssignment (bounds s t u)) (λ a ts rest q. named_parameter q) ls))
      (reads_bind _ (reads_parameters closing rest ls h (omega (arith, l, no_longer_type q))) (rw (mark_next (codes ";") closing rest h refl) read_now)))
  item_opens (ReadsItem.wire_item {signed} {r} {ns} {word} {closing} {ts} {us} {vs} {rest} w x z ls h) l =
      let named = named_list (ReadsDeclarationAssignment (bounds s t u)) (λ a ts rest q. named_declaration q) ls in
      item_at word (k.Keyword (codes "wire")) ts (wire_item (whole n) (target n) n (outer n) word.place) w refl
      (rw (word_reads x refl (range_no_word (codes "signed") z (named_no_word (codes "signed") named)))
      (reads_bind _ (reads_optional_range n most room s t u z (omega (arith, l, no_longer_word x)) (named_no_mark (codes "[") named))
      (reads_bind _ (reads_declarations closing rest ls h (omega (arith, l, no_longer_word x, no_longer_optional_range z))) (rw (mark_next (codes ";") closing rest h refl) read_now))))
  item_opens (ReadsItem.reg_item {signed} {r} {ns} {word} {closing} {ts} {us} {vs} {rest} w x z ls h) l =
      let named = named_list (ReadsVariableType (bounds s t u)) (λ a ts rest q. named_variable q) ls in
      item_at word (k.Keyword (codes "reg")) ts (reg_item (whole n) (target n) n (outer n) word.place) w refl
      (rw (word_reads x refl (range_no_word (codes "signed") z (named_no_word (codes "signed") named)))
      (reads_bind _ (reads_optional_range n most room s t u z (omega (arith, l, no_longer_word x)) (named_no_mark (codes "[") named))
      (reads_bind _ (reads_variables closing rest ls h (omega (arith, l, no_longer_word x, no_longer_optional_range z))) (rw (mark_next (codes ";") closing rest h refl) read_now))))
  item_opens (ReadsItem.integer_item {ns} {word} {closing} {ts} {rest} w ls h) l =
      item_at word (k.Keyword (codes "integer")) ts (integer_item (whole n) (target n) n (outer n) word.place) w refl
      (reads_bind _ (reads_variables closing rest ls h (omega (arith, l))) (rw (mark_next (codes ";") closing rest h refl) read_now))
  item_opens (ReadsItem.assign_item {ns} {word} {closing} {ts} {rest} w ls h) l =
      item_at word (k.Keyword (codes "assign")) ts (assign_item (whole n) (target n) n (outer n) word.place) w refl
      (reads_bind _ (reads_assignments closing rest ls h (omega (arith, l))) (rw (mark_next (codes ";") closing rest h refl) read_now))
  item_opens (ReadsItem.initial_item {a} {word} {ts} {rest} w q) l =
      item_at word (k.Keyword (codes "initial")) ts (initial_item (whole n) (target n) n (outer n) word.place) w refl (reads_bind _ (reads_outer q (omega (arith, l))) read_now)
  item_opens (ReadsItem.always_item {a} {trigger = x} {word} {at} {ts} {us} {rest} w h q f) l =
      item_at word (k.Keyword (codes "always")) (at ∷ ts) (always_item (whole n) (target n) n (outer n) word.place) w refl
      (rw (mark_next (codes "@") at ts h refl, trigger_reads (whole n) (target n) n q (omega (arith, l, room))) (reads_bind _ (reads_outer f (omega (arith, l, shorter_trigger q))) read_now))
  item_opens (ReadsItem.function_item {a} {ts} {rest} q) l =
      let (v, us, e, h, r) = reads_function n most room s t u q l in
      rw e (item_at v (k.Keyword (codes "function")) us (function_item (whole n) (target n) n (outer n) v.place) h refl (reads_bind _ r read_now))
  item_opens (ReadsItem.instance_item {a} {ts} {rest} q) l =
      let (v, us, name, e, h, r) = reads_instance n q (omega (arith, l, room)) in
      rw e (item_at v (k.Name name) us (instance_item (whole n) (target n) n (outer n) v.place name) h refl (reads_bind _ r read_now))

  -- { item }
  pub reads_items : {es : List Item} {ts rest : List Token} → ReadsMany (ReadsItem (bounds s t u)) es ts rest → length ts ≤ most → next_by (item_by (whole n) (target n) n (outer n)) rest ≡ None → Reads s t u es rest (many (item_by (whole n) (target n) n (outer n)) (λ q. q) n ts)
  reads_items q l e = reads_each (item_by (whole n) (target n) n (outer n)) (λ q. q) (ReadsItem (bounds s t u)) most (λ a ts rest l q. item_opens q l) (λ a ts rest q. shorter_item q) q n l (omega (arith, l, room)) e
