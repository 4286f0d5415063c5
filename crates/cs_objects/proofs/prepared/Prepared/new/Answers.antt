use Rattle.cs_objects.specs.declared.prepared.Prepared.{Prepared}
use Rattle.cs_objects.proofs.Statics.{statics_are}
use Rattle.cs_objects.proofs.prepared.Prepared.new.Goals as goal

pub returns : goal.returns
returns c =
    let prepared : Prepared = record { globals = c.in_ok-globals.globals; literals = c.in_ok-literals.literals; offsets = c.in_ok-offsets.offsets } in
    record {
      objects = statics_are c.args.program.now prepared c.in_ok-globals.ensures c.in_ok-literals.ensures;
      count = c.in_ok-offsets.ensures.count;
      offsets = c.in_ok-offsets.ensures.offsets;
    }
