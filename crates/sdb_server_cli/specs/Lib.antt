pub mod StoreModel
