-- The memory space of each kind of base region.
use Rattle.cs_regions.specs.declared.base.Base.{Base}
use Rattle.cs_regions.specs.declared.base.Base.TheVariants.{Entry, Global, Literal, Local, Heap}
use Rattle.cs_regions.specs.declared.base.Space.{Space}
use Rattle.cs_regions.specs.declared.base.Space.TheVariants as space

-- start blocks, globals, literals, locals and heap blocks each have a space of their own
abbrev pub space_with : Base → Space
space_with (Entry path) = space.Start
space_with (Global number) = space.Globals
space_with (Literal number) = space.Constants
space_with (Local frame decl) = space.Stack
space_with (Heap number) = space.Heap
