use Rattle.std.proofs.Common.{sym, subst}
use Rattle.std.specs.Prelude.{Vec}
use Rattle.std.specs.declared.alloc.Global.{Global}
use Rattle.cs_results.specs.declared.finding.Finding.{Finding}
use Rattle.cs_witness.specs.Witnesses.{KeepsListed}
use Rattle.cs_witness.proofs.witness.Findings.take_in.Goals as goal

pub returns-in_ok-listed-in-Fault-clause-reports_kept : goal.returns-in_ok-listed-in-Fault-clause-reports_kept
returns-in_ok-listed-in-Fault-clause-reports_kept c =
    subst (λ (v : Vec Finding Global). KeepsListed c.args.self.now.reports.items v.items) (sym c.count.ensures.reports)
    c.in_ok-listed-in-Fault.ensures.kept

pub returns-in_ok-listed-in-Over-clause-overs_kept : goal.returns-in_ok-listed-in-Over-clause-overs_kept
returns-in_ok-listed-in-Over-clause-overs_kept c =
    subst (λ (v : Vec Finding Global). KeepsListed c.args.self.now.overs.items v.items) (sym c.count-in-Over.ensures.overs)
    c.in_ok-listed-in-Over.ensures.kept
