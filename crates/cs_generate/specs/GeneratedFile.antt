-- Generated files: a line for each function.
use Rattle.std.specs.Prelude.{ℕ, ◌+◌, ◌*◌, ◌%◌, List, [], ◌∷◌, ◌++◌, codes, slice_index_or}
use Rattle.std.specs.List.{flat_map, range_with_len}
use Rattle.std.specs.Fmt.{decimal}
use Rattle.cs_generate.specs.declared.template.Template.{Template}
use Rattle.cs_generate.specs.declared.template.Template.TheVariants.{Division, GuardedDivision, Load, Difference, Sum, FreedBlock}

-- the templates in their order
abbrev pub templates : List Template
templates = Division ∷ GuardedDivision ∷ Load ∷ Difference ∷ Sum ∷ FreedBlock ∷ []

-- the template of a function
abbrev pub template_of : ℕ → ℕ → Template
template_of seed number = slice_index_or templates ((seed + number) % 6) FreedBlock

-- the constant of a function
abbrev pub constant_of : ℕ → ℕ → ℕ
constant_of seed number = (7 * seed + 13 * number) % 97 + 2

-- the body of a function with this constant, after its name
abbrev pub body_of : Template → ℕ → List ℕ
body_of Division c = codes "(int x){return " ++ decimal c ++ codes "/x;}"
body_of GuardedDivision c = codes "(int x){if(x==0)return 0;return " ++ decimal c ++ codes "/x;}"
body_of Load c = codes "(int *p){if(p)return *p+" ++ decimal c ++ codes ";return *p;}"
body_of Difference c = codes "(int x,int y){if(x<y)return " ++ decimal c ++ codes ";return x-y;}"
body_of Sum c = codes "(int n){int i;int s=0;for(i=0;i<n;i++)s=s+" ++ decimal c ++ codes ";return s;}"
body_of FreedBlock c = codes "(void){int *p=malloc(sizeof(int));if(!p)return 0;*p=" ++ decimal c ++ codes ";free(p);return *p;}"

-- the line of a function
abbrev pub line_of : ℕ → ℕ → List ℕ
line_of seed number = codes "int f" ++ decimal number ++ body_of (template_of seed number) (constant_of seed number) ++ codes "\n"

-- the file: this many functions, numbered from 0
abbrev pub generated_file : ℕ → ℕ → List ℕ
generated_file seed size = flat_map (line_of seed) (range_with_len 0 size)
