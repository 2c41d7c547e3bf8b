-- A sink that takes one text and then another has taken both.
use Rattle.std.proofs.Common.{ℕ, List, ◌++◌, ap, ◌∙◌, append_assoc}
use Rattle.std.specs.Prelude.{Option, Some, None, option_map}
use Rattle.host_run.specs.Taking.{Takes}

pub takes-more : (old mid new : Option (List ℕ)) (a b : List ℕ) → Takes old mid a → Takes mid new b → Takes old new (a ++ b)
takes-more None mid new a b h k = k ∙ ap (option_map (λ taken. taken ++ b)) h
takes-more (Some x) mid new a b h k = k ∙ ap (option_map (λ taken. taken ++ b)) h ∙ ap Some (append_assoc x a b)
