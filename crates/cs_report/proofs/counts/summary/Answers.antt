use Rattle.std.proofs.Common.{◌≡◌, ℕ, List, [], ◌++◌, ◌∙◌, append_assoc}
use Rattle.cs_report.proofs.LineTexts.{summary_pieces}
use Rattle.cs_report.proofs.counts.summary.Goals as goal

-- six pieces that were printed one after the other
six_pieces : (none first second third fourth fifth sixth a b c d e f : List ℕ) → none ≡ [] → first ≡ none ++ a → second ≡ first ++ b
    → third ≡ second ++ c → fourth ≡ third ++ d → fifth ≡ fourth ++ e → sixth ≡ fifth ++ f → sixth ≡ a ++ (b ++ (c ++ (d ++ (e ++ f))))
six_pieces none first second third fourth fifth sixth a b c d e f is one two three four five six =
    rw (six, five, four, three, two, one, is) (simp append_assoc)

pub returns : goal.returns
returns c =
    six_pieces _ _ _ _ _ _ _ _ _ _ _ _ _ c.new-text.ensures.items c.in_ok-append.ensures c.in_ok-append-2.ensures c.in_ok-append-3.ensures
    c.in_ok-append-4.ensures c.in_ok-append-5.ensures (rw c.every_kind-kinds.ensures at c.in_ok-append_kinds.ensures)
    ∙ summary_pieces c.args.bytes c.args.results.now c.complete_of-complete.result c.bounded_of-bounded.result c.cut_of-cut.result
    c.complete_of-complete.ensures c.bounded_of-bounded.ensures c.cut_of-cut.ensures
