-- After tags, opened structs and completed ones the structs have layouts: for the types that specifiers name.
use Rattle.std.proofs.Common.{◌≡◌, ℕ, ◌+◌, ◌-◌, ◌<◌, ◌≤◌, ◌^◌, ◌≢◌, ◌||◌, Bool, true, false, cond, nat_eq, List, []}
use Rattle.std.proofs.Common.{◌∷◌, ◌++◌, length, is_some, sym, ◌∙◌, ap, ap₂, refl, subst, arith, length-append, length-set, eq-eqb}
use Rattle.std.specs.Prelude.{Option, Some, None, IfSome, slice_set, slice_index_or}
use Rattle.std.specs.List.{All}
use Rattle.std.specs.Cmp.Lexicographic.{pointwise}
use Rattle.std.proofs.lemmas.Bool.{or_parts}
use Rattle.std.proofs.lemmas.List.Elements.{All-nil, All-cons, All-head, All-tail, All-push, All-weaker}
use Rattle.cs_types.specs.declared.data_model.DataModel.{DataModel}
use Rattle.cs_types.specs.declared.structs.StructType.{StructType}
use Rattle.cs_types.specs.Shape.{Shape}
use Rattle.cs_types.specs.Layout.{round_up, members_of, HasSmallSizes, IsLaidOut, Fits}
use Rattle.cs_ast.specs.declared.place.Place.{Place}
use Rattle.cs_scopes.specs.declared.refusal.TypeCode.TheVariants.{DeclaredTwice}
use Rattle.cs_scopes.specs.declared.scope.Tag.{Tag}
use Rattle.cs_scopes.specs.declared.scope.TagMeaning.{TagMeaning}
use Rattle.cs_scopes.specs.declared.scope.TagMeaning.TheVariants as tag
use Rattle.cs_scopes.specs.Verdicts.{Fine, Fault}
use Rattle.cs_scopes.specs.Sizes.{bytes_in}
use Rattle.cs_scopes.specs.Scopes.{tagged}
use Rattle.cs_declarations.specs.Environment.{Environment, model_of, table_of, with_tag}
use Rattle.cs_declarations.specs.Bodies.{Typing, Laying, Opening, Body, empty_struct, with_struct, with_tagged_struct, tag_in, struct_named, is_among, opened}
use Rattle.cs_declarations.specs.Bodies.{opening_tagged, opening, name_or_none, struct_read}
use Rattle.cs_declarations.specs.LaidOut.{IsOpen, IsOfTable, AreSound, IsSound}
use Rattle.cs_declarations.proofs.Alignments.{members-low}
use Rattle.cs_declarations.proofs.CompletedTables.{members_of-push, Grows-push, pushed, others_keep, Grows-set, completed}
use Rattle.cs_declarations.proofs.FineVerdicts.{IfFine, IfFine-cond}
use Rattle.cs_declarations.proofs.GrownTables.{Grows, HasSmallSizes-Grows}
use Rattle.cs_declarations.proofs.SoundLayings.{IsLaying, IsLaying-Grows}
use Rattle.cs_declarations.proofs.TypeSizes.{bytes_in-HasLayout}

-- ---- structs after a part of a file

-- they are sound, extend those before, and the same bodies are being read
pub record Following (k : Environment) (model : DataModel) (table : List StructType) (tags : List Tag) (reading : List ℕ) : Type 0 where
  pub sound : AreSound model table tags reading
  pub grows : Grows (table_of k) table
  pub same_model : model ≡ model_of k
  pub same_reading : reading ≡ k.reading

-- what is known before a part of a file, and after it; by computation it is the same with other declarations, scopes and literals after it
abbrev pub GoesOn : Environment → Environment → Type 0
GoesOn k after = Following k (model_of after) (table_of after) after.context.scope.tags after.reading

Grows-trans : (first second third : List StructType) → Grows first second → Grows second third → Grows first third
Grows-trans first second third g h = record {
  members = λ number ms e. h.members number ms (g.members number ms e);
  count = (let one = g.count in let two = h.count in omega arith);
}

pub GoesOn-same : (k : Environment) → IsSound k → GoesOn k k
GoesOn-same k h = record { sound = h; grows = record { members = λ number ms e. e; count = omega arith }; same_model = refl; same_reading = refl }

pub GoesOn-trans : (k between after : Environment) → GoesOn k between → GoesOn between after → GoesOn k after
GoesOn-trans k between after g h = record {
  sound = h.sound;
  grows = Grows-trans (table_of k) (table_of between) (table_of after) g.grows h.grows;
  same_model = h.same_model ∙ g.same_model;
  same_reading = h.same_reading ∙ g.same_reading;
}

-- the members so far keep their offsets
pub IsLaying-GoesOn : (k after : Environment) → GoesOn k after → (l : Laying) → IsLaying (model_of k) (table_of k) l
    → IsLaying (model_of after) (table_of after) l
IsLaying-GoesOn k after g l h =
    subst (λ (model : DataModel). IsLaying model (table_of after) l) (sym g.same_model) (IsLaying-Grows (model_of k) (table_of k) (table_of after) g.grows l h)

-- no structs
pub none-AreSound : (model : DataModel) → AreSound model [] [] []
none-AreSound model = record {
  laid_out = λ number laid ms stands has. absurd (cc);
  tagged = All-nil (λ (t : Tag). IsOfTable [] t.meaning);
  begun = All-nil (IsOpen []);
}

-- the type of an object keeps its bound on sizes
pub object-Fits : (k after : Environment) → IsSound k → GoesOn k after
    → (shape : Shape) (bytes : ℕ) → bytes_in (model_of k) (table_of k) shape ≡ Some bytes → Fits (model_of after) (table_of after) shape
object-Fits k after sound g shape bytes e =
    let h = bytes_in-HasLayout (model_of k) (table_of k) sound.laid_out shape bytes e in
    record {
      laid_out = g.sound.laid_out;
      small = subst (λ (model : DataModel). HasSmallSizes model (table_of after) shape) (sym g.same_model)
          (HasSmallSizes-Grows (model_of k) (table_of k) (table_of after) g.grows shape h.layout h.laid h.small);
    }

-- ---- tags

IfSome-cond : {A : Type 0} (b : Bool) (x : A) (o : Option A) (P : A → Type 0) → P x → IfSome o P → IfSome (cond b (Some x) o) P
IfSome-cond true x o P h g = h
IfSome-cond false x o P h g = g

-- the meaning of a tag
pub tagged-IsOfTable : (table : List StructType) (name : List ℕ) (tags : List Tag) → All (λ (t : Tag). IsOfTable table t.meaning) tags
    → IfSome (tagged name tags) (IsOfTable table)
tagged-IsOfTable table name [] h = tt
tagged-IsOfTable table name (t ∷ ts) h =
    let P : Tag → Type 0 = λ t. IsOfTable table t.meaning in
    IfSome-cond (pointwise nat_eq name t.name) t.meaning (tagged name ts) (IsOfTable table) (All-head P t ts h)
    (tagged-IsOfTable table name ts (All-tail P t ts h))

longer : (before after : List StructType) → length before ≤ length after → (m : TagMeaning) → IsOfTable before m → IsOfTable after m
longer before after more (tag.Struct number) h = omega arith
longer before after more tag.Enum h = tt

-- one more tag
pub with_tag-GoesOn : (k between : Environment) (name : List ℕ) (meaning : TagMeaning) → IsOfTable (table_of between) meaning → GoesOn k between
    → GoesOn k (with_tag name meaning between)
with_tag-GoesOn k between name meaning of_table g = record {
  sound = record {
    laid_out = g.sound.laid_out;
    tagged = All-push (λ (t : Tag). IsOfTable (table_of between) t.meaning) between.context.scope.tags (record { name = name; meaning = meaning })
        g.sound.tagged of_table;
    begun = g.sound.begun;
  };
  grows = g.grows;
  same_model = g.same_model;
  same_reading = g.same_reading;
}

-- ---- one more struct
module _ (k : Environment) (name : List ℕ) (sound : IsSound k) where
  last_in : length (table_of k) < length (table_of k ++ empty_struct name ∷ [])
  last_in = let e = length-append (table_of k) (empty_struct name ∷ []) in omega arith

  pub with_struct-GoesOn : GoesOn k (with_struct name k)
  with_struct-GoesOn =
      let table = table_of k in
      let after = table ++ empty_struct name ∷ [] in
      let more : length table ≤ length after = (let one = last_in in omega arith) in
      record {
        sound = record {
          laid_out = pushed (empty_struct name) refl (model_of k) table sound.laid_out;
          tagged = All-weaker (λ (t : Tag). IsOfTable table t.meaning) (λ (t : Tag). IsOfTable after t.meaning) (λ t h. longer table after more t.meaning h)
              k.context.scope.tags sound.tagged;
          begun = All-weaker (IsOpen table) (IsOpen after) (λ number h.
              record {
                within = (let w = h.within in omega arith);
                empty = members_of-push (empty_struct name) refl table number ∙ h.empty;
              }) k.reading sound.begun;
        };
        grows = Grows-push (empty_struct name) refl table;
        same_model = refl;
        same_reading = refl;
      }

  pub with_tagged_struct-GoesOn : GoesOn k (with_tagged_struct name k)
  with_tagged_struct-GoesOn = with_tag-GoesOn k (with_struct name k) name (tag.Struct (length (table_of k))) last_in with_struct-GoesOn

-- the struct that a tag without a body names
pub struct_named-GoesOn : (at : Place) (name : List ℕ) (k : Environment) (meaning : Option TagMeaning) → IsSound k
    → IfFine (struct_named at name k meaning) (λ (t : Typing). GoesOn k t.1)
struct_named-GoesOn at name k (Some (tag.Struct number)) sound = GoesOn-same k sound
struct_named-GoesOn at name k (Some tag.Enum) sound = tt
struct_named-GoesOn at name k None sound = with_tagged_struct-GoesOn k name sound

-- ---- a struct whose body begins

-- it has no members yet, and isn't among those whose bodies are being read
pub record IsOpened (k : Environment) (o : Opening) : Type 0 where
  pub sound : IsSound o.known
  pub grows : Grows (table_of k) (table_of o.known)
  pub same_model : model_of o.known ≡ model_of k
  pub more_reading : o.known.reading ≡ k.reading ++ o.number ∷ []
  pub apart : All (λ number. number ≢ o.number) k.reading

opened-IsOpened : (k between : Environment) (number : ℕ) → GoesOn k between → IsOpen (table_of between) number
    → All (λ other. other ≢ number) k.reading → IsOpened k (opened number between)
opened-IsOpened k between number g is_open apart = record {
  sound = record {
    laid_out = g.sound.laid_out;
    tagged = g.sound.tagged;
    begun = All-push (IsOpen (table_of between)) between.reading number g.sound.begun is_open;
  };
  grows = g.grows;
  same_model = g.same_model;
  more_reading = ap (λ rs. rs ++ number ∷ []) g.same_reading;
  apart = apart;
}

-- a new struct isn't among those that are being read
new_apart : (k : Environment) → IsSound k → All (λ number. number ≢ length (table_of k)) k.reading
new_apart k sound = All-weaker (IsOpen (table_of k)) (λ number. number ≢ length (table_of k)) (λ number h. λ e. (let w = h.within in absurd (omega arith)))
    k.reading sound.begun

new_open : (table : List StructType) (name : List ℕ) → IsOpen (table ++ empty_struct name ∷ []) (length table)
new_open table name = record {
  within = (let e = length-append table (empty_struct name ∷ []) in omega arith);
  empty = members_of-push (empty_struct name) refl table (length table) ∙ past_end table;
}
  where
    past_end : (xs : List StructType) → members_of xs (length xs) ≡ None
    past_end [] = refl
    past_end (x ∷ xs) = past_end xs

-- nor is one that isn't found among them
among-apart : (number : ℕ) (reading : List ℕ) → is_among number reading ≡ false → All (λ other. other ≢ number) reading
among-apart number [] h = All-nil (λ other. other ≢ number)
among-apart number (r ∷ rs) h =
    let parts = or_parts (nat_eq r number) (is_among number rs) h in
    All-cons (λ other. other ≢ number) r rs (λ e. (let same : nat_eq r number ≡ true = eq-eqb r number e in cc)) (among-apart number rs parts.1)

none_there : {A : Type 0} (o : Option A) → is_some o ≡ false → o ≡ None
none_there None h = refl
none_there (Some x) h = absurd (cc)

opening_tagged-IsOpened : (at : Place) (name : List ℕ) (k : Environment) → IsSound k
    → (meaning : Option TagMeaning) → IfSome meaning (IsOfTable (table_of k)) → IfFine (opening_tagged at name k meaning) (IsOpened k)
opening_tagged-IsOpened at name k sound (Some (tag.Struct number)) within =
    IfFine-cond (is_among number k.reading || is_some (members_of (table_of k) number)) (Fault DeclaredTwice at) (Fine (opened number k)) (IsOpened k)
    (λ twice. tt)
    (λ new.
    let parts = or_parts (is_among number k.reading) (is_some (members_of (table_of k) number)) new in
    opened-IsOpened k k number (GoesOn-same k sound) (record { within = within; empty = none_there (members_of (table_of k) number) parts.1 })
    (among-apart number k.reading parts.0))
opening_tagged-IsOpened at name k sound (Some tag.Enum) within = tt
opening_tagged-IsOpened at name k sound None within =
    opened-IsOpened k (with_tagged_struct name k) (length (table_of k)) (with_tagged_struct-GoesOn k name sound) (new_open (table_of k) name)
    (new_apart k sound)

pub opening-IsOpened : (at : Place) (name : Option (List ℕ)) (k : Environment) → IsSound k → IfFine (opening at name k) (IsOpened k)
opening-IsOpened at (Some name) k sound =
    opening_tagged-IsOpened at name k sound (tag_in k name) (tagged-IsOfTable (table_of k) name k.context.scope.tags sound.tagged)
opening-IsOpened at None k sound =
    opened-IsOpened k (with_struct [] k) (length (table_of k)) (with_struct-GoesOn k [] sound) (new_open (table_of k) []) (new_apart k sound)

-- ---- a struct whose body was read

-- what is known after members, and these members
abbrev pub IsRead : Environment → Body → Type 0
IsRead k b = GoesOn k b.known × IsLaying (model_of b.known) (table_of b.known) b.laying

All-front : {X : Type 0} (P : X → Type 0) (xs : List X) (x : X) → All P (xs ++ x ∷ []) → All P xs × P x
All-front P [] x h = (All-nil P, All-head P x [] h)
All-front P (y ∷ ys) x h =
    let rest = All-front P ys x (All-tail P y (ys ++ x ∷ []) h) in
    (All-cons P y ys (All-head P y (ys ++ x ∷ []) h) rest.0, rest.1)

-- padding makes a struct only a little larger than its members
padded-few : (size align : ℕ) → size ≤ 2 ^ 20 → align ≤ 8 → round_up size align ≤ 2 ^ 40
padded-few size align few low =
    let most : round_up size align ≤ size + (align - 1) = omega arith in
    omega arith

module _ (k : Environment) (o : Opening) (is_opened : IsOpened k o) (name : Option (List ℕ)) (b : Body) (read : IsRead o.known b) where
  reads : All (IsOpen (table_of b.known)) k.reading × IsOpen (table_of b.known) o.number
  reads =
      let same : b.known.reading ≡ k.reading ++ o.number ∷ [] = read.0.same_reading ∙ is_opened.more_reading in
      All-front (IsOpen (table_of b.known)) k.reading o.number (subst (All (IsOpen (table_of b.known))) same read.0.sound.begun)

  abbrev complete : StructType
  complete = record { tag = name_or_none name; members = Some b.laying.members; size = round_up b.laying.size b.laying.align; align = b.laying.align }

  few : complete.size ≤ 2 ^ 40
  few =
      let low = members-low (model_of b.known) (table_of b.known) b.laying.members read.1.layouts read.1.laid in
      padded-few b.laying.size b.laying.align read.1.few (subst (λ (n : ℕ). n ≤ 8) (sym read.1.align) low)

  laid_out : IsLaidOut (model_of b.known) (slice_set (table_of b.known) o.number complete)
  laid_out =
      completed (model_of b.known) (table_of b.known) o.number reads.1.within reads.1.empty complete b.laying.members refl
      read.1.layouts read.1.laid read.1.put (ap₂ round_up read.1.size read.1.align) read.1.align few read.1.small read.0.sound.laid_out

  still : (number : ℕ) → IsOpen (table_of b.known) number → number ≢ o.number → IsOpen (slice_set (table_of b.known) o.number complete) number
  still number h apart = record {
    within = (let w = h.within in let e = length-set (table_of b.known) o.number complete in omega arith);
    empty = others_keep (model_of b.known) (table_of b.known) o.number reads.1.within reads.1.empty complete b.laying.members refl number apart ∙ h.empty;
  }

  -- the structs have layouts after it
  pub struct_read-GoesOn : IfFine (struct_read o k.reading name b) (λ (t : Typing). GoesOn k t.1)
  struct_read-GoesOn =
      let model = model_of b.known in
      let before = table_of b.known in
      let after = slice_set before o.number complete in
      let same_length : length after ≡ length before = length-set before o.number complete in
      record {
        sound = record {
          laid_out = laid_out;
          tagged = All-weaker (λ (t : Tag). IsOfTable before t.meaning) (λ (t : Tag). IsOfTable after t.meaning)
              (λ t h. longer before after (omega arith) t.meaning h) b.known.context.scope.tags read.0.sound.tagged;
          begun = λ i d within. still (slice_index_or k.reading i d) (reads.0 i d within) (is_opened.apart i d within);
        };
        grows = Grows-trans (table_of k) (table_of o.known) after is_opened.grows
            (Grows-trans (table_of o.known) before after read.0.grows
            (Grows-set model before o.number reads.1.within reads.1.empty complete b.laying.members refl));
        same_model = read.0.same_model ∙ is_opened.same_model;
        same_reading = refl;
      }
