pub mod SortedMapLaws
