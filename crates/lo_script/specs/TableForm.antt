-- The forms of requests on tables, rows and cursors.
use Rattle.std.specs.Prelude.{List, ◌∷◌, codes}
use Rattle.lo_base.specs.declared.request.Request.{Request}
use Rattle.lo_base.specs.declared.request.Request.TheVariants.{CreateTable, Insert, Update, Delete, Get, Ids, Slice, Declare, Fetch, Close, Rewrite}
use Rattle.lo_script.specs.ArrayForm.{array_forms}
use Rattle.lo_script.specs.Reader.{Reader, Form, form, first_token, one_token, two_tokens, three_tokens, four_tokens, list_of_tokens}
use Rattle.lo_script.specs.Token.{int8_of, name_of, keyword_of}
use Rattle.lo_script.specs.ValueToken.{literal_of, next_literal, id_column_of, next_column, change_of, next_change, storage_column_of, next_storage}

-- create table NAME COLDEF.., the first of which is the column `id`
abbrev pub create_of : Reader Request
create_of = first_token (keyword_of (codes "table")) (λ _. first_token name_of (λ table. list_of_tokens id_column_of next_column (CreateTable table)))

-- insert NAME VALUE..
abbrev pub insert_of : Reader Request
insert_of = first_token name_of (λ table. list_of_tokens literal_of next_literal (Insert table))

-- update NAME ID CHANGE..
abbrev pub update_of : Reader Request
update_of = first_token name_of (λ table. first_token int8_of (λ id. list_of_tokens change_of next_change (Update table id)))

-- rewrite NAME STORAGEDEF..
abbrev pub rewrite_of : Reader Request
rewrite_of = first_token name_of (λ table. list_of_tokens storage_column_of next_storage (Rewrite table))

-- slice NAME ID NAME INT8 INT8
abbrev pub slice_of : Reader Request
slice_of = first_token name_of (λ table. four_tokens int8_of name_of int8_of int8_of (Slice table))

-- the forms of requests on tables, rows and cursors, and then those of array variables
abbrev pub table_forms : List Form
table_forms =
    form (codes "create") create_of
    ∷ form (codes "insert") insert_of
    ∷ form (codes "update") update_of
    ∷ form (codes "delete") (two_tokens name_of int8_of Delete)
    ∷ form (codes "get") (two_tokens name_of int8_of Get)
    ∷ form (codes "ids") (one_token name_of Ids)
    ∷ form (codes "slice") slice_of
    ∷ form (codes "declare") (three_tokens name_of name_of int8_of Declare)
    ∷ form (codes "fetch") (four_tokens name_of name_of int8_of int8_of Fetch)
    ∷ form (codes "close") (one_token name_of Close)
    ∷ form (codes "rewrite") rewrite_of
    ∷ array_forms
