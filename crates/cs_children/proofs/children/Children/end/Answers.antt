use Rattle.std.proofs.Common.{refl, sym}
use Rattle.std.proofs.lemmas.List.{append-nil}
use Rattle.cs_children.proofs.Apart.{ends_apart}
use Rattle.cs_children.proofs.children.Children.end.Goals as goal

pub returns : goal.returns
returns c = record {
  adds = record { children = sym (append-nil c.args.self.now.made.items); endings = c.in_ok-push.ensures.items; cuts = refl };
  apart = ends_apart c.args.self.now (record c.args.self.now { ends = c.push.new.self }) (c.args.outcome, c.args.state) c.in_ok-push.ensures.items
      (c.has_end.ensures c.if-has_end.false);
}
