-- How an expression is sized (IEEE 1364-2005, clause 5.5.2): each node at its own width and sign, and then the context down to
-- the operands that it determines (own: in two steps, so that no form is determined twice).
use Rattle.std.specs.Prelude.{ℕ, List, [], ◌∷◌}
use Rattle.vl_design.specs.declared.design.Form.{Form}
use Rattle.vl_design.specs.Syntax as e
use Rattle.vl_design.specs.Sized.{Sized, At, Node, Num, Label, Sig, Word, Pick, Slice, Un, Bin, Cond, Cat, Rep, Cast, Call, Time, LastAnswer, Several, NoneSized, MoreSized}
use Rattle.vl_design.specs.Width.{Names, form, operand_form, left_form, right_form, assigned, input_widths}
use Rattle.vl_width.specs.Widths.{form_of}

abbrev mutual
  -- a node whose operands stand at their own widths and signs, an argument as assigned to its input
  pub own_node : Names → e.Exp → Node
  own_node names (e.Num v w signed) = Num v w signed
  own_node names (e.Label v care w signed) = Label v care w signed
  own_node names (e.Sig k) = Sig k
  own_node names (e.Word m a) = Word m (At (form names a).width (form names a).signed (own_node names a))
  own_node names (e.Pick b i from w) =
      Pick (At (form names b).width (form names b).signed (own_node names b)) (At (form names i).width (form names i).signed (own_node names i)) from w
  own_node names (e.Slice b low w) = Slice (At (form names b).width (form names b).signed (own_node names b)) low w
  own_node names (e.Un op a) = Un op (At (form names a).width (form names a).signed (own_node names a))
  own_node names (e.Bin op a b) =
      Bin op (At (form names a).width (form names a).signed (own_node names a)) (At (form names b).width (form names b).signed (own_node names b))
  own_node names (e.Cond t a b) =
      Cond (At (form names t).width (form names t).signed (own_node names t)) (At (form names a).width (form names a).signed (own_node names a)) (At (form names b).width (form names b).signed (own_node names b))
  own_node names (e.Cat es) = Cat (own_parts names es)
  own_node names (e.Rep n es) = Rep n (own_parts names es)
  own_node names (e.Cast signed a) = Cast signed (At (form names a).width (form names a).signed (own_node names a))
  own_node names (e.Call f es) = Call f (own_arguments names es (input_widths names f))
  own_node names e.Time = Time
  own_node names e.LastAnswer = LastAnswer

  pub own_parts : Names → e.Exps → Several
  own_parts names e.NoExps = NoneSized
  own_parts names (e.MoreExps e es) = MoreSized (At (form names e).width (form names e).signed (own_node names e)) (own_parts names es)

  pub own_arguments : Names → e.Exps → List ℕ → Several
  own_arguments names e.NoExps widths = NoneSized
  own_arguments names (e.MoreExps e es) [] = NoneSized
  own_arguments names (e.MoreExps e es) (w ∷ ws) =
      let c = assigned w (form names e) in
      MoreSized (At c.width c.signed (own_node names e)) (own_arguments names es ws)

-- each node at its own width and sign
abbrev pub own : Names → e.Exp → Sized
own names e = At (form names e).width (form names e).signed (own_node names e)

abbrev mutual
  -- the same in a context
  pub read_at : Sized → Form → Sized
  read_at (At w signed n) c = At c.width c.signed (operands_at n c)

  -- a node's operands, where the node stands in a context
  pub operands_at : Node → Form → Node
  operands_at (Num v w signed) c = Num v w signed
  operands_at (Label v care w signed) c = Label v care w signed
  operands_at (Sig k) c = Sig k
  operands_at (Word m a) c = Word m (read_at a (form_of a))
  operands_at (Pick b i from w) c = Pick (read_at b (form_of b)) (read_at i (form_of i)) from w
  operands_at (Slice b low w) c = Slice (read_at b (form_of b)) low w
  operands_at (Un op a) c = Un op (read_at a (operand_form op (form_of a) c))
  operands_at (Bin op a b) c =
      Bin op (read_at a (left_form op (form_of a) (form_of b) c)) (read_at b (right_form op (form_of a) (form_of b) c))
  operands_at (Cond t a b) c = Cond (read_at t (form_of t)) (read_at a c) (read_at b c)
  operands_at (Cat xs) c = Cat (several_at xs)
  operands_at (Rep n xs) c = Rep n (several_at xs)
  operands_at (Cast signed a) c = Cast signed (read_at a (form_of a))
  operands_at (Call f xs) c = Call f (several_at xs)
  operands_at Time c = Time
  operands_at LastAnswer c = LastAnswer

  pub several_at : Several → Several
  several_at NoneSized = NoneSized
  several_at (MoreSized x xs) = MoreSized (read_at x (form_of x)) (several_at xs)
