use Rattle.vl_sound.proofs.InstancesOfAgree.{clocks-are-inputs, instance-of}
use Rattle.vl_sound.proofs.agree_laws.an_instance_is_of_a_module_of_the_source.Goals as goal

pub returns : goal.returns
returns c = record { «module» = instance-of; clocks = clocks-are-inputs }
