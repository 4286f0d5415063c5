-- Where a function begins: the code's new frame represents the machine's. For the simulation.
use Rattle.std.proofs.Common.{◌≡◌, ℕ, Some, unwrap_or, replicate, refl, sym, ap, ◌∙◌, subst}
use Rattle.cs_ast.specs.TypedTree.{Statement, Block, Empty}
use Rattle.cs_ast.specs.TypedProgram.{TypedProgram, Routine}
use Rattle.cs_meaning.specs.Machine.{routine_of, body_of}
use Rattle.cs_meaning.specs.CountedPoints.{counted_points}
use Rattle.cs_meaning.specs.Calls.{new_frame}
use Rattle.cs_cfg.specs.Graph.{Flow, Code, block_of, flow_of}
use Rattle.cs_cfg.specs.Working.{code_frame}
use Rattle.cs_cfg.specs.Placing.{does, there}
use Rattle.cs_cfg.specs.Executing.{leaving, finishing, executes_at}
use Rattle.cs_cfg.specs.Placed.{LowersBody}
use Rattle.cs_cfg.specs.Graph as graph
use Rattle.cs_cfg.proofs.Related.{FrameStands}

-- the body of a function that has one is what `body_of` returns
pub executed : (routine : Routine) (body : Statement) → routine.body ≡ Some body → body_of routine ≡ body
executed routine body e = ap (λ some. unwrap_or some (Block routine.at Empty)) e

module _ (code : Code) (program : TypedProgram) where
  -- the first point of a graph does what is to be done in a new frame
  pub frame_begins : (function number : ℕ) (body : Statement) (flow : Flow) → (routine_of program function).body ≡ Some body
      → flow_of code function ≡ Some flow →
      LowersBody program (routine_of program function) body flow
      → FrameStands code program 0 (new_frame function number (routine_of program function)) (code_frame function flow number)
  frame_begins function number body flow has_body has_flow lowers =
      let routine = routine_of program function in
      let same = executed routine body has_body in
      let executes = subst (λ b. executes_at program flow routine lowers.labels b 0 finishing finishing lowers.inside lowers.following) (sym same)
      lowers.executes in
      record {
        function = refl;
        number = refl;
        stack = refl;
        visits = ap (λ count. replicate count 0) (lowers.counts ∙ ap counted_points (sym same));
        body = body;
        has_body = has_body;
        flow = flow;
        has_flow = has_flow;
        lowers = lowers;
        out = finishing;
        again = finishing;
        here = block_of flow flow.entry;
        joins = there;
        stands = (
          refl,
          (
            0,
            lowers.inside,
            refl,
            lowers.begins,
            (
              lowers.inside,
              there,
              (
                refl,
                (
                  lowers.following,
                  executes,
                  (
                    does routine.closes 0 (graph.Close lowers.nothing) leaving,
                    lowers.ends,
                    (refl, (lowers.nothing, sym lowers.gives, refl), (finishing, there, (refl, there, there))),
                  ),
                ),
              ),
            ),
          ),
        );
      }
