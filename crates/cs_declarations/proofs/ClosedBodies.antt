-- A struct's body from its opening to its members: for the types that bodies complete.
use Rattle.std.proofs.Common.{◌≡◌, ℕ, ◌-◌, List, [], ◌∷◌, ◌++◌, Option, length, take, sym, ap, ◌∙◌, arith, length-append}
use Rattle.std.proofs.Math.Seq.{take-append_seam}
use Rattle.cs_types.specs.Shape.{struct}
use Rattle.cs_ast.specs.declared.place.Place.{Place}
use Rattle.cs_ast.specs.declared.raw.declaration.RawMember.{RawMember}
use Rattle.cs_scopes.specs.declared.refusal.TypeRefusal.{TypeRefusal}
use Rattle.cs_scopes.specs.Verdicts.{Verdict, Fine, lift, IsRefused}
use Rattle.cs_scopes.proofs.Lifting.{lift-fine, lift-refused}
use Rattle.cs_declarations.specs.Environment.{Environment, with_reading}
use Rattle.cs_declarations.specs.Bodies.{Typing, Opening, Body, nothing_laid, opening, struct_read, members_of_list, struct_body, with_members, name_or_none}
use Rattle.cs_declarations.proofs.SaidSoFar.{refused_by}

-- the bodies that are being read, without the last one
popped : (before now : List ℕ) (n : ℕ) → now ≡ before ++ n ∷ [] → take (length now - 1) now ≡ before
popped before now n e =
    let one : length (before ++ n ∷ []) - 1 ≡ length before = omega (arith, length-append before (n ∷ [])) in
    ap (λ l. take (length l - 1) l) e ∙ ap (λ m. take m (before ++ n ∷ [])) one ∙ take-append_seam before (n ∷ [])

module _ (k : Environment) (at : Place) (name : Option (List ℕ)) (groups : List RawMember) (o : Opening) (opens : opening at name k ≡ Fine o) where
  body_opened : struct_body k at name groups ≡ lift (struct_read o k.reading name) (members_of_list o.known groups nothing_laid)
  body_opened =
      let rule : Opening → Verdict Typing = λ o. lift (struct_read o k.reading name) (members_of_list o.known groups nothing_laid) in
      ap (lift rule) opens ∙ lift-fine rule o

  pub members_stop : (r : TypeRefusal) → IsRefused (members_of_list o.known groups nothing_laid) r → IsRefused (struct_body k at name groups) r
  members_stop r h = refused_by r body_opened (lift-refused (struct_read o k.reading name) (members_of_list o.known groups nothing_laid) r h)

  pub body_closed : (b : Body) (after : Environment) → members_of_list o.known groups nothing_laid ≡ Fine b
      → b.known.reading ≡ k.reading ++ o.number ∷ [] →
      after ≡ with_reading (take (length b.known.reading - 1) b.known.reading) (with_members o.number (name_or_none name) b.laying b.known)
      → struct_body k at name groups ≡ Fine (struct o.number, after)
  body_closed b after e reading is =
      body_opened ∙ ap (lift (struct_read o k.reading name)) e ∙ lift-fine (struct_read o k.reading name) b
      ∙ ap (λ rs. Fine (struct o.number, with_reading rs (with_members o.number (name_or_none name) b.laying b.known)))
      (sym (popped k.reading b.known.reading o.number reading))
      ∙ ap (λ x. Fine (struct o.number, x)) (sym is)
